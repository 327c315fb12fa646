-- Libraries below this one that are passed on: crates above name them here.
pub use Rattle.domain_obj.proofs.Below.core_chapter as core_chapter
