pub mod ReasonTexts
pub mod CacheRules
pub mod Serving
pub mod CacheSteps
pub mod Worlds
pub mod Calm
pub mod Connections
