pub mod Asks
pub mod Keeping
pub mod Answers
pub mod Told
pub mod Restoring
pub mod Turning
pub mod Below
