pub mod Cells
pub mod Chapters
pub mod Ledgers
pub mod Objects
pub mod States
pub mod Below
