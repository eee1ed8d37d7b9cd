pub mod PrivateFollowing
pub mod Lines
pub mod ListStatus
pub mod Listing
pub mod PrivateLines
