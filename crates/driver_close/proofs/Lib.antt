pub mod Ending
pub mod Whole
pub mod Fresh
pub mod Parts
pub mod OneRow
