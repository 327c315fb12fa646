pub mod Owning
pub mod Saying
