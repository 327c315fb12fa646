pub mod Marks
pub mod Following
pub mod Stopping
pub mod Coming
pub mod Answering
pub mod Tasking
pub mod OfOutcomes
