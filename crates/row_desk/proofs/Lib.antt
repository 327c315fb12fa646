pub mod Storing
pub mod Serving
pub mod Fitting
pub mod LawProofs
