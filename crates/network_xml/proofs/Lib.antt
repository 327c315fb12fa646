pub mod Hosts
pub mod Masks
pub mod NetworkAgain
pub mod Reading
pub mod Sound
