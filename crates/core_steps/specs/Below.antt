-- Libraries below this one that are passed on: crates above name them here.
pub use Rattle.core_log.specs.Below.core_dispatch as core_dispatch
pub use Rattle.core_log.specs.Below.core_chapter as core_chapter
pub use Rattle.core_log.specs.Below.core_flight as core_flight
pub use Rattle.core_log.specs as core_log
