-- The one past the most is at the place that is left among those that are left.
use Rattle.std.proofs.Common.{◌≡◌, drop}
use Rattle.std.specs.Prelude.{filter, slice_get}
use Rattle.store_spec.specs.Changes.{same_kind}
use Rattle.found_domains.specs.Found.{past}
use Rattle.found_domains.proofs.past.past.Given as goal

abbrev pub invariant-loop-row : goal.invariant-loop-row
invariant-loop-row l = slice_get (filter (λ f. same_kind f.kind l.kind) (drop l.row-index l.rows)) l.left ≡ past l.kind l.rows
