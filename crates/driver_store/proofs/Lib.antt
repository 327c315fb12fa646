pub mod Putting
pub mod Stopping
pub mod Fewness
pub mod Listed
