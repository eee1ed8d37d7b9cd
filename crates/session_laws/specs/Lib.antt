pub mod Editions
pub mod Written
pub mod Pipes
