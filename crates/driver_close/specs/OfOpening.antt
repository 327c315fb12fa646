-- Words of driver_open that are passed on: crates above name them here.
pub use Rattle.driver_open.specs.Cells.{HasCells}
pub use Rattle.driver_open.specs.Unopened.{IsUnopened}
