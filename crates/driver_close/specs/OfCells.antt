-- Words of domain_core that are passed on: crates above name them here.
pub use Rattle.driver_open.specs.OfCells.{meaning}
