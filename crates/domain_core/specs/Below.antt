-- Libraries below this one that are passed on: crates above name them here.
pub use Rattle.core_steps.specs.Below.core_dispatch as core_dispatch
pub use Rattle.core_steps.specs.Below.core_chapter as core_chapter
pub use Rattle.core_steps.specs.Below.core_flight as core_flight
pub use Rattle.core_steps.specs.Below.core_log as core_log
pub use Rattle.core_steps.specs as core_steps
pub use Rattle.core_owed.specs as core_owed
pub use Rattle.event_queue.specs as event_queue
