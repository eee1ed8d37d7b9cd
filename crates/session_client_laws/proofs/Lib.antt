mod Again
mod Along
mod Called
mod Current
pub mod Example
mod Naming
mod Served
