-- Libraries below this one that are passed on: crates above name them here.
pub use Rattle.outcome_spec.proofs as outcome_spec
