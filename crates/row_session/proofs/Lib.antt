pub mod Fits
pub mod Closing
pub mod Unserved
pub mod Dues
pub mod Counting
pub mod Answering
pub mod Courses
pub mod Complete
