-- Libraries below this one that are passed on: crates above name them here.
pub use Rattle.def_keeper.specs as def_keeper
