pub mod Due
pub mod Fronts
pub mod GuestMemory
pub mod OneAsk
