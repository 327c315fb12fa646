-- Libraries below this one that are passed on: crates above name them here.
pub use Rattle.driver_crossing.proofs.Below.driver_close as driver_close
