pub mod Firsts
pub mod Slotted
pub mod Made
pub mod OfStore
