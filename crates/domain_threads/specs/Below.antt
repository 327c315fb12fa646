-- Libraries below this one that are passed on: crates above name them here.
pub use Rattle.domain_obj.specs.Below.domain_core as domain_core
pub use Rattle.domain_obj.specs.Below.core_chapter as core_chapter
pub use Rattle.domain_obj.specs as domain_obj
