-- Words of domain_core that are passed on: crates above name them here.
pub use Rattle.driver_cells.specs.OfCells.{Celled, history_of, meaning, no_mark_lowers}
