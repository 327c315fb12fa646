pub mod Guests
pub mod Tidy
