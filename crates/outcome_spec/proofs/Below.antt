-- Libraries below this one that are passed on: crates above name them here.
pub use Rattle.domain_requests.proofs as domain_requests
