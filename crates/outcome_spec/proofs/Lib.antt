pub mod LawProofs
pub mod Sequentially
pub mod Staying
pub mod Going
pub mod Below
