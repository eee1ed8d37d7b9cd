pub mod Laid
pub mod AddressTexts
pub mod OneMore
pub mod ReadBack
mod CleanTexts
mod JsonPieces
mod PlainTexts
pub mod EscapedTexts
mod EscapedStrings
mod PlainTokens
mod UnitPieces
mod ClearedBits
mod ReportPieces
mod ShortNumbers
