pub mod Tables
pub mod TableStatus
pub mod PrivateObjects
