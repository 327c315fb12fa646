pub mod Idle
pub mod Listing
pub mod Reading
pub mod Stopping
pub mod Titling
pub mod Unmarked
pub mod Whole
pub mod Below
