pub mod Judged
pub mod Places
pub mod Planned
pub mod TakenSlots
