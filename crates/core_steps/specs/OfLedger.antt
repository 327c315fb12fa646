-- Words of core_flight that are passed on: crates above name them here.
pub use Rattle.core_log.specs.Below.core_flight.Away.{IsPhaseWaiting, WaitsWith}
pub use Rattle.core_log.specs.Below.core_flight.Ledger.{Chaptered, standing_in, step_to}
pub use Rattle.core_log.specs.Below.core_flight.Operations.{IsToldAtEnd}
pub use Rattle.core_log.specs.Below.core_flight.declared.ledger.Back.{Back}
pub use Rattle.core_log.specs.Below.core_flight.declared.ledger.Back.TheVariants as back_variants
pub use Rattle.core_log.specs.Below.core_flight.declared.ledger.Begun.{Begun}
pub use Rattle.core_log.specs.Below.core_flight.declared.phase_out.Step.{Step}
pub use Rattle.core_log.specs.Below.core_flight.declared.phase_out.Step.TheVariants as step_variants
