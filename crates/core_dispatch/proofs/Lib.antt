pub mod Below
pub mod Outlasts
pub mod Served
