pub mod Below
pub mod KeptSnaps
pub mod RisingSnaps
pub mod SnapAt
pub use Rattle.types_base.proofs.Fronts
pub use Rattle.types_base.proofs.Kept
pub use Rattle.types_base.proofs.Names
