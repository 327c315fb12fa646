pub mod EachWord
pub mod Shown
