-- Words of drivers and their rows that are passed on: crates above name them here.
pub use Rattle.driver_crossing.specs.Below.driver.Cells.{IsRowOf}
pub use Rattle.driver_crossing.specs.Below.driver_close.Closed.{IsWhole}
pub use Rattle.driver_crossing.specs.Below.held_tasks.OfRows.{IsReadyRow}
