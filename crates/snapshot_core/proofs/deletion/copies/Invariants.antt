use Rattle.std.proofs.Common.{◌≡◌, All, length}
use Rattle.snapshot_core.proofs.deletion.copies.Given as goal

-- as many copies as turns
abbrev pub invariant-loop-at : goal.invariant-loop-at
invariant-loop-at l = All (λ copy. copy ≡ l.parent) l.copies.items × (length l.copies.items ≡ l._at)
