pub mod Forms
pub mod Fronts
pub mod Puts
pub mod Agreement
