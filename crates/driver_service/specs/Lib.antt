pub mod Serving
pub mod Saying
pub mod Calling
pub mod Below
