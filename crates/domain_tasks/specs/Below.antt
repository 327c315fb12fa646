-- Libraries below this one that are passed on: crates above name them here.
pub use Rattle.outcome_spec.specs.Below.def_keeper as def_keeper
pub use Rattle.domain_obj.specs.Below.domain_core as domain_core
pub use Rattle.domain_obj.specs.Below.refusals as refusals
pub use Rattle.outcome_spec.specs.Below.session_spec as session_spec
