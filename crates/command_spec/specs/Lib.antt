pub mod Columns
pub mod Commands
pub mod Actions
pub mod Laws
pub mod Lines
pub mod Output
pub mod Printed
pub mod Reading
