-- Libraries below this one that are passed on: crates above name them here.
pub use Rattle.procedure_spec.specs as procedure_spec
