pub mod Formed
pub mod Given
pub mod Texts
pub mod ReadsAs
