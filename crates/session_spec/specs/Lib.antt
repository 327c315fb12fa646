pub mod Bounds
pub mod Course
pub mod DefinitionText
pub mod Refused
pub mod Replies
pub mod Below
