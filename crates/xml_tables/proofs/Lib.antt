mod Digits
mod Parsed
mod Pieces
pub mod Again
pub mod Below
pub mod Formed
pub mod Found
pub mod Identifiers
pub mod RowsParsed
pub mod Was
