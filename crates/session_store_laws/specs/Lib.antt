pub mod HeldHistory
pub mod SentOfStore
pub mod ServedData
pub mod ShownOfStore
