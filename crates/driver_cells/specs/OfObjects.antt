-- Words of domain_obj that are passed on: crates above name them here.
pub use Rattle.domain_tasks.specs.OfObjects.{DomainPass, Goes, HasQueried, IsLegalHistory, IsReady, Queried, Reads, Seen, TellsSpent}
pub use Rattle.domain_tasks.specs.OfObjects.queried_variants
