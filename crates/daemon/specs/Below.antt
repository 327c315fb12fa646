-- Libraries below this one that are passed on: crates above name them here.
pub use Rattle.driver_service.specs.Below.driver_close as driver_close
pub use Rattle.driver_service.specs.Below.held_tasks as held_tasks
