pub mod CutLaws
pub mod Each
pub mod Listening
pub mod Ring
pub mod Rings
pub mod Telling
pub mod Whole
