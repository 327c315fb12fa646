pub mod Telling
pub mod Below
