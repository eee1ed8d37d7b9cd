pub mod TestedSoFar
pub mod EntriesSoFar
pub mod Seen
mod Sharing
