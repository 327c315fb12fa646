pub mod FreeSlots
pub mod Index
pub mod Table
pub mod Keeping
pub mod Turns
pub mod Names
pub mod Opening
