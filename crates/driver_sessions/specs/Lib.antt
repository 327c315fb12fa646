pub mod OfDrivers
pub mod Turned
pub mod Seats
pub mod Serving
pub mod Closing
