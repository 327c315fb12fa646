pub mod Six
pub mod Below
