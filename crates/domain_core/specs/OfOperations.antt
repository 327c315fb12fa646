-- A word of core_steps, on operations, that is passed on beside the one of calls with the same name.
pub use Rattle.core_steps.specs.Beginning.{Looks}
