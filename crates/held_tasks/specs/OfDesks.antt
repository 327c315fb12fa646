-- Words of row_desk that are passed on: crates above name them here.
pub use Rattle.row_desk.specs.Views.{StorePass}
