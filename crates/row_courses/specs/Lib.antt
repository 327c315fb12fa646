pub mod Outcomes
pub mod Apart
pub mod Laws
