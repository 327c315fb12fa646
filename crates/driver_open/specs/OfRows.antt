-- Words of driver_cells that are passed on: crates above name them here.
pub use Rattle.driver_cells.specs.Known.{DriverRow}
pub use Rattle.driver_cells.specs.Parts.{KeepsParts, parts_of}
