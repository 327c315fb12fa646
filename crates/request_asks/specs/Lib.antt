pub mod Passes
pub mod Plain
pub mod Words
pub mod Found
pub mod Claims
pub mod Said
pub mod Turns
pub mod Below
