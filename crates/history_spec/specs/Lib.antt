pub mod Front
pub mod Chapter
pub mod Begins
pub mod Pass
pub mod Tally
