pub mod Placing
pub mod Sharing
