pub mod Cutting
pub mod Reading
pub mod Naming
pub mod Telling
