-- Libraries below this one that are passed on: crates above name them here.
pub use Rattle.core_plan.specs as core_plan
pub use Rattle.core_plan.specs.Below.core_dispatch as core_dispatch
pub use Rattle.core_chapter.specs as core_chapter
