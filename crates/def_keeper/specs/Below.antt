-- Libraries below this one that are passed on: crates above name them here.
pub use Rattle.def_map.specs as def_map
pub use Rattle.image_store.specs as image_store
