pub mod Lines
pub mod Definition
pub mod FileName
pub mod Status
