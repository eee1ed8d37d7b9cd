pub mod KeptNames
pub mod NamesApart
pub mod ProviderOrder
pub mod NamesLaid
pub mod Steps
pub mod TextTests
