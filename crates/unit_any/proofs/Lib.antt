pub mod Agreement
pub mod Parts
mod LaidReports
pub mod Forms
mod Headers
pub mod Held
pub mod Lengths
mod Plain
mod Replies
pub mod Reports
mod Stops
pub mod Units
pub mod Viewed
pub mod Wholes
