pub mod Resting
pub mod Cutting
pub mod Others
pub mod Rows
pub mod Joining
pub mod Closing
