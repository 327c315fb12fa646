-- Lemmas of driver_cells that are passed on: crates above name them here.
pub use Rattle.driver_cells.proofs.Going.{gone_itself}
pub use Rattle.driver_cells.proofs.Passing.{later_itself, later_through}
pub use Rattle.driver_cells.proofs.Stopping.{no_room, ran_out}
