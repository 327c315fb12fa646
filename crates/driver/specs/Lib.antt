pub mod Cells
pub mod Called
pub mod Below
