-- Libraries below this one that are passed on: crates above name them here.
pub use Rattle.domain_core.specs as domain_core
pub use Rattle.domain_core.specs.Below.core_dispatch as core_dispatch
pub use Rattle.domain_core.specs.Below.core_chapter as core_chapter
pub use Rattle.domain_core.specs.Below.core_flight as core_flight
pub use Rattle.domain_core.specs.Below.core_log as core_log
pub use Rattle.domain_core.specs.Below.core_steps as core_steps
pub use Rattle.refusals.specs as refusals
