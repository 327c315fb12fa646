-- Words of rows that are passed on: crates above name them here.
pub use Rattle.driver_cells.specs.Fronts.{no_front}
pub use Rattle.driver_cells.specs.Known.{known, known_row}
pub use Rattle.driver_cells.specs.Parts.{KeepsParts, parts_of}
pub use Rattle.driver_cells.specs.Ready.{IsReadyRow, KeepsNothing}
pub use Rattle.driver_cells.specs.Known.{DriverRow}
