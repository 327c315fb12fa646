-- Lemmas of outcome_spec that are passed on: crates above name them here.
pub use Rattle.driver_cells.proofs.OfOutcomes.{level_stays}
