pub mod Buffers
pub mod Members
