pub mod Reading
pub mod Replying
pub mod Telling
pub mod Steps
