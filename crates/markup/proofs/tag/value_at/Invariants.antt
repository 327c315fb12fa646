use Rattle.std.proofs.Common.{◌≡◌, ℕ, ◌≤◌, length}
use Rattle.text_spec.specs.Tag.{value_at, behind}
use Rattle.markup.proofs.tag.value_at.Given as goal

abbrev pub invariant-loop-c : goal.invariant-loop-c
invariant-loop-c l =
    (n : ℕ) × (length l.rest ≤ n) × (length l.rest ≤ length l.chars)
    × (value_at (length l.chars) l.told l.quote l.chars ≡ behind l.found.items (value_at n l.told l.quote l.rest))

abbrev pub decreases-loop-c : goal.decreases-loop-c
decreases-loop-c l = length l.rest
