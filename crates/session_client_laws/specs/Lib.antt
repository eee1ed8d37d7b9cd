pub mod Again
pub mod Called
pub mod Runs
pub mod Served
