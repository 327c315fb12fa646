-- Laws of domain_requests that functions here use.
pub use Rattle.outcome_spec.proofs.Below.domain_requests.Why.{unnamed}
