-- A word of found_domains that is passed on: crates above name it here.
pub use Rattle.driver_store.specs.Below.found_domains.declared.found.FoundDomain.{FoundDomain}
