pub mod First
pub mod Pushed
pub mod Staying
