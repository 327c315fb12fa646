-- Libraries below this one that are passed on: crates above name them here.
pub use Rattle.snapshot_core.proofs as snapshot_core
