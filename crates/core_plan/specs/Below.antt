-- Libraries below this one that are passed on: crates above name them here.
pub use Rattle.core_dispatch.specs as core_dispatch
