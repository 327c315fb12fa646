-- Libraries below this one that are passed on: crates above name them here.
pub use Rattle.driver_open.specs as driver_open
