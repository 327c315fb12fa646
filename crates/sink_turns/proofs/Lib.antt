pub mod Texts
pub mod Putting
pub mod Noting
pub mod Leaving
pub mod Turning
pub mod Closing
