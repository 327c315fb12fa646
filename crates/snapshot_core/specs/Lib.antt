pub mod Both
pub mod Deletion
pub mod Fits
pub mod Judged
pub mod Plan
pub mod Steps
pub mod Taking
