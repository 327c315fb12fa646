mod Bare
mod Pieces
mod SameFaults
mod SameValues
pub mod Below
pub mod Interfaces
pub mod Lasts
pub mod PassedOver
pub mod Rebuilt
