pub mod Crossing
pub mod Ended
pub mod Keeping
pub mod Rows
pub mod Turning
pub mod Whole
pub mod Below
