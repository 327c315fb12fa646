pub mod Known
pub mod Ready
pub mod Fronts
pub mod Parts
pub mod OfCells
pub mod OfObjects
pub mod OfOutcomes
pub mod OfTasks
