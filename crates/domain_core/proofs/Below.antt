-- Libraries below this one that are passed on: crates above name them here.
pub use Rattle.core_steps.proofs.Below.core_plan as core_plan
pub use Rattle.core_steps.proofs.Below.core_chapter as core_chapter
pub use Rattle.core_steps.proofs.Below.core_flight as core_flight
pub use Rattle.core_steps.proofs as core_steps
pub use Rattle.core_owed.proofs as core_owed
