pub mod Validity
pub mod Covering
pub mod Tables
pub mod PrivateTable
pub mod PrivateCovering
pub mod PrivateSets
pub mod PrivateTrail
