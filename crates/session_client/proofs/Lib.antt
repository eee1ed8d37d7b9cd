mod Calls
mod CountsKept
pub mod Example
mod Made
pub mod Makings
mod Pieces
mod Overs
mod Places
mod Reports
mod Room
pub mod Runs
pub mod Steps
pub mod Takes
mod Turns
mod Words
