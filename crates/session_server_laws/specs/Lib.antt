pub mod Services
pub mod Talks
