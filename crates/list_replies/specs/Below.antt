-- Libraries below this one that are passed on: crates above name them here.
pub use Rattle.outcome_spec.specs.Below.domain_requests as domain_requests
pub use Rattle.outcome_spec.specs as outcome_spec
