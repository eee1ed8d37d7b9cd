pub mod AnnouncedNames
pub mod Knowing
pub mod NamedPayloads
mod Pieces
mod Printing
mod Runs
mod Shown
