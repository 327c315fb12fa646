pub mod Made
pub mod Keeping
pub mod Rows
pub mod Served
