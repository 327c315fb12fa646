-- Libraries below this one that are passed on: crates above name them here.
pub use Rattle.driver.proofs.Below.driver_close as driver_close
pub use Rattle.driver.proofs.Below.held_tasks as held_tasks
pub use Rattle.driver.proofs.Below.row_desk as row_desk
