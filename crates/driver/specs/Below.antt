-- Libraries below this one that are passed on: crates above name them here.
pub use Rattle.driver_lists.specs.Below.driver_cells as driver_cells
pub use Rattle.driver_close.specs as driver_close
pub use Rattle.driver_close.specs.Below.driver_open as driver_open
pub use Rattle.held_tasks.specs as held_tasks
pub use Rattle.held_tasks.specs.Below.row_desk as row_desk
