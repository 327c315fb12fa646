use Rattle.std.proofs.Common.{◌≡◌, ◌≤◌, ◌+◌, length}
use Rattle.text_spec.specs.Aside as spec
use Rattle.markup.proofs.aside.section_at.Given as goal

abbrev pub invariant-loop-c : goal.invariant-loop-c
invariant-loop-c l =
    (spec.section_at l.told 0 l.chars ≡ spec.section_at l.told l.brackets l.rest) × (length l.rest + l.brackets ≤ length l.chars)

abbrev pub decreases-loop-c : goal.decreases-loop-c
decreases-loop-c l = length l.rest
