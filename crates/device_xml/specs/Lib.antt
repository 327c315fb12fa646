pub mod Below
pub mod Keys
