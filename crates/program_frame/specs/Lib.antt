pub mod Questions
pub mod Guises
pub mod FileNames
pub mod Colours
pub mod Terminals
