-- Libraries below this one that are passed on: crates above name them here.
pub use Rattle.row_desk.specs as row_desk
