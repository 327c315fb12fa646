pub mod Fits
pub mod Outlasting
