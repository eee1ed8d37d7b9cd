pub mod CleanForms
pub mod Cleaning
pub mod CleanStatus
pub mod CleanWords
pub mod PrivateClean
