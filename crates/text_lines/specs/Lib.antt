pub mod Laying
pub mod ListedUnits
pub mod ReportParts
pub mod TextLines
pub mod ControlEscapes
pub mod JsonLines
pub mod PayloadLines
pub mod PrivateStrings
