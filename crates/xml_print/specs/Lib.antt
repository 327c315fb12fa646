pub mod Absent
pub mod Below
pub mod Last
pub mod LiveText
pub mod Room
