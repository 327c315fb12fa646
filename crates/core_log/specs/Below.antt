-- Libraries below this one that are passed on: crates above name them here.
pub use Rattle.core_flight.specs.Below.core_plan as core_plan
pub use Rattle.core_flight.specs.Below.core_dispatch as core_dispatch
pub use Rattle.core_flight.specs.Below.core_chapter as core_chapter
pub use Rattle.core_flight.specs as core_flight
