pub mod Limits
pub mod Doors
pub mod Paces
pub mod Keeping
