pub mod Following
pub mod Operating
pub mod Record
pub mod Below
