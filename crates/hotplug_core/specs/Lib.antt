pub mod Asks
pub mod Faults
pub mod Fitting
pub mod Slots
pub mod Left
