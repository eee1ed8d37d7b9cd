mod Heads
mod Alone
mod Units
pub mod Whole
mod Left
pub mod OneList
pub mod Sending
mod Heard
mod Connected
mod ShortTexts
pub mod Examples
