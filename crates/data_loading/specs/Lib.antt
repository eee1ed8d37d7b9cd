pub mod Loading
pub mod PrivateLoading
