pub mod Closed
pub mod Last
pub mod OfCells
pub mod OfOpening
pub mod Laws
pub mod Below
