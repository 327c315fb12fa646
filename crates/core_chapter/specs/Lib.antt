pub mod Closing
pub mod Numbered
pub mod Standing
