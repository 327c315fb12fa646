pub mod Rows
pub mod Map
pub mod Listed
pub mod Walk
