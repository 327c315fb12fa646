-- Libraries below this one that are passed on: crates above name them here.
pub use Rattle.types_base.proofs as types_base
