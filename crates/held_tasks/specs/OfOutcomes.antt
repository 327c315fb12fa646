-- Words of outcome_spec that are passed on: crates above name them here.
pub use Rattle.driver_cells.specs.OfOutcomes.{HasGone, HasOutcome, IsLater, IsNow, IsOfConnection, IsOfNobody, IsOfStore, KnownRow, Outcome, ReadsNow, is_read, level}
