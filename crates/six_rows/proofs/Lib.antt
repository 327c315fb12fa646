pub mod Taken
pub mod Below
