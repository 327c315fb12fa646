pub mod Below
pub mod Called
pub mod Pieces
pub mod Rows
pub mod Spelled
pub mod Values
