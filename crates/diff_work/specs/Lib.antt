pub mod DiffWords
pub mod Differences
pub mod Printing
pub mod FilesCompared
pub mod DiffStatus
pub mod PrivateChanges
