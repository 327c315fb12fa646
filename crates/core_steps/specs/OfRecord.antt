-- Words of core_log that are passed on: crates above name them here.
pub use Rattle.core_log.specs.Operating.{Begins, TakesUp}
pub use Rattle.core_log.specs.Record.{IsQuietOf, Recorded, force_of}
