pub mod Telling
pub mod Seeing
pub mod Listing
pub mod Images
pub mod Memory
pub mod Putting
