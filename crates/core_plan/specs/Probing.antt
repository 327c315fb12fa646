-- What is found of a plan by trying what would be next.
use Rattle.std.specs.Prelude.{ℕ, List, [], slice_get, Option, None, Some}
use Rattle.domain_spec.specs.Types.{Ask}
use Rattle.domain_spec.specs.declared.planned.PlannedAsk.{PlannedAsk}

-- what undoes a planned ask, if there is one
abbrev pub undo_in : Option PlannedAsk → List Ask
undo_in None = []
undo_in (Some p) = p.undo

-- what undoes the planned ask at this place
abbrev pub undo_behind : List PlannedAsk → ℕ → List Ask
undo_behind plan of = undo_in (slice_get plan of)
