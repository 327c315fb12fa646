-- Libraries below this one that are passed on: crates above name them here.
pub use Rattle.domain_core.proofs.Below.core_plan as core_plan
pub use Rattle.domain_core.proofs as domain_core
pub use Rattle.domain_core.proofs.Below.core_chapter as core_chapter
pub use Rattle.domain_core.proofs.Below.core_flight as core_flight
pub use Rattle.domain_core.proofs.Below.core_steps as core_steps
