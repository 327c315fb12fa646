pub mod Fronts
