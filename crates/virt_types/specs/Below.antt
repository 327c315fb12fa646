-- Libraries below this one that are passed on: crates above name them here.
pub use Rattle.types_base.specs as types_base
