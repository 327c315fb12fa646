pub mod Title
pub mod Kept
pub mod Below
