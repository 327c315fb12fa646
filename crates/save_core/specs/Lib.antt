pub mod Leaving
pub mod Parts
pub mod Steps
pub mod PhaseFits
