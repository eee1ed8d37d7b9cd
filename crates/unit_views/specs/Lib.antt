pub mod Faults
pub mod Origins
pub mod OwedCodes
pub mod Placing
pub mod PrivateFirst
pub mod Views
