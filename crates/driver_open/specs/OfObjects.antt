-- Words of domain_obj that are passed on: crates above name them here.
pub use Rattle.driver_cells.specs.OfObjects.{DomainPass, IsLegalHistory}
