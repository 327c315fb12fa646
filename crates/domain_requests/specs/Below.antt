-- Libraries below this one that are passed on: crates above name them here.
pub use Rattle.session_spec.specs.Below.procedure_spec as procedure_spec
pub use Rattle.session_spec.specs as session_spec
