-- Libraries below this one that are passed on: crates above name them here.
pub use Rattle.core_plan.proofs as core_plan
pub use Rattle.core_chapter.proofs as core_chapter
