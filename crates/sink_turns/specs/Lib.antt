pub mod Marks
pub mod Text
pub mod Putting
pub mod Saying
pub mod Keeping
pub mod Told
pub mod Closing
pub mod Laws
