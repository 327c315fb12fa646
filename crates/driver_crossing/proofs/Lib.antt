pub mod Crossing
pub mod Shared
pub mod Below
