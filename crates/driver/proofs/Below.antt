-- Libraries below this one that are passed on: crates above name them here.
pub use Rattle.driver_close.proofs as driver_close
pub use Rattle.held_tasks.proofs as held_tasks
pub use Rattle.held_tasks.proofs.Below.row_desk as row_desk
