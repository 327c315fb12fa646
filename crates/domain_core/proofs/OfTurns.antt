-- Lemmas of core_steps that are passed on: crates above name them here.
pub use Rattle.core_steps.proofs.Admitting.{not_nested}
