use Rattle.std.proofs.Common.{◌≡◌, ◌≤◌, length, false}
use Rattle.text_spec.specs.Aside as spec
use Rattle.markup.proofs.aside.instruction_at.Given as goal

abbrev pub invariant-loop-c : goal.invariant-loop-c
invariant-loop-c l =
    (spec.instruction_at l.told false l.chars ≡ spec.instruction_at l.told l.questioned l.rest) × (length l.rest ≤ length l.chars)

abbrev pub decreases-loop-c : goal.decreases-loop-c
decreases-loop-c l = length l.rest
