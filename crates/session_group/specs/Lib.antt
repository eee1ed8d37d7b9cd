pub mod Groups
pub mod Runs
pub mod Recovery
pub mod Ends
pub mod Served
pub mod Texts
