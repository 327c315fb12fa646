pub mod Lines
pub mod Judging
pub mod Checking
pub mod Adding
