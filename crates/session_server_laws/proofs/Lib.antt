pub mod Example
mod Keeping
mod Steps
mod Talking
mod Telling
