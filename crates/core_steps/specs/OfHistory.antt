-- Words of core_chapter that are passed on: crates above name them here.
pub use Rattle.core_log.specs.Below.core_chapter.Closing.{reply_in}
