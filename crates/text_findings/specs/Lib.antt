pub mod CheckedUnits
pub mod FindingTexts
pub mod KeptNames
pub mod PayloadNames
pub mod PrivateSteps
pub mod Rules
pub mod SequenceSoFar
