pub mod Faults
pub mod Again
pub mod Reading
pub mod Stopped
pub mod Listing
pub mod Below
