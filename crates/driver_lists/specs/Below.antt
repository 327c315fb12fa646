-- Libraries below this one that are passed on: crates above name them here.
pub use Rattle.driver_cells.specs as driver_cells
