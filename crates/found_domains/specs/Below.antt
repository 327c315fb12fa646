-- Libraries below this one that are passed on: crates above name them here.
pub use Rattle.domain_texts.specs as domain_texts
