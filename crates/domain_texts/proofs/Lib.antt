pub mod Titles
pub mod Short
