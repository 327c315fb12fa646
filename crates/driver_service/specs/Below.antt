-- Libraries below this one that are passed on: crates above name them here.
pub use Rattle.driver.specs as driver
pub use Rattle.driver.specs.Below.driver_cells as driver_cells
pub use Rattle.driver.specs.Below.driver_close as driver_close
pub use Rattle.driver.specs.Below.driver_open as driver_open
pub use Rattle.driver.specs.Below.held_tasks as held_tasks
pub use Rattle.driver.specs.Below.row_desk as row_desk
