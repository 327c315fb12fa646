-- Who waits for a domain.
use Rattle.std.specs.Prelude.{Bool, List, map}
use Rattle.domain_spec.specs.Types.{Who}
use Rattle.domain_spec.specs.Cell.{Queue, Waiter}
use Rattle.domain_spec.specs.Open.{is_same_who}

-- the callers alone
abbrev pub callers_in : Queue → List Who
callers_in q = map (λ w. w.who) q.callers

-- it is this caller
abbrev pub is_of : Who → Waiter → Bool
is_of who w = is_same_who w.who who
