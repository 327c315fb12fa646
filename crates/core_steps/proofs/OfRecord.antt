-- Lemmas of core_log that are passed on: crates above name them here.
pub use Rattle.core_log.proofs.Joining.{force_after}
