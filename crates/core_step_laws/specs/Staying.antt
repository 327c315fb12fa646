-- What of a number's share stays in turns of its own.
use Rattle.std.specs.Prelude.{◌≡◌}
use Rattle.domain_spec.specs.Cell.{Share}

-- its operation, its registrations and its ears
pub record RestStays (s t : Share) : Type 0 where
  pub operation : t.operation ≡ s.operation
  pub registrations : t.registrations ≡ s.registrations
  pub ears : t.ears ≡ s.ears

-- who waits by it, its registrations and its ears
pub record AsideStays (s t : Share) : Type 0 where
  pub waits : t.waits ≡ s.waits
  pub registrations : t.registrations ≡ s.registrations
  pub ears : t.ears ≡ s.ears
