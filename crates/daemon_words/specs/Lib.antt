pub mod Commands
pub mod Listing
