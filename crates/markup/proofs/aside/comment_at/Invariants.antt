use Rattle.std.proofs.Common.{◌≡◌, ◌≤◌, length, false}
use Rattle.text_spec.specs.Aside as spec
use Rattle.markup.proofs.aside.comment_at.Given as goal

abbrev pub invariant-loop-c : goal.invariant-loop-c
invariant-loop-c l =
    (spec.comment_at l.told false l.chars ≡ spec.comment_at l.told l.hyphened l.rest) × (length l.rest ≤ length l.chars)

abbrev pub decreases-loop-c : goal.decreases-loop-c
decreases-loop-c l = length l.rest
