pub mod Answers
pub mod Keeping
pub mod Marks
pub mod Opening
pub mod Turns
