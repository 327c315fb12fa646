-- Laws of core_flight that functions here use.
pub use Rattle.core_log.proofs.Below.core_flight.LastReply.{told_none, told_so}
