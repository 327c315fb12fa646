-- Libraries below this one that are passed on: crates above name them here.
pub use Rattle.found_domains.specs as found_domains
