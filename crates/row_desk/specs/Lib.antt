pub mod Views
pub mod Stored
pub mod Served
pub mod Asking
pub mod Laws
