use Rattle.std.proofs.Common.{◌≡◌, ◌≤◌, length, false}
use Rattle.text_spec.specs.Reference.{number_at as spec_number_at}
use Rattle.markup.proofs.reference.number_at.Given as goal

abbrev pub invariant-loop-c : goal.invariant-loop-c
invariant-loop-c l =
    (spec_number_at l.base l.told 0 false l.chars ≡ spec_number_at l.base l.told l.number l.some l.rest)
    × (length l.rest ≤ length l.chars) × (l.number ≤ 0x10FFFF)

abbrev pub decreases-loop-c : goal.decreases-loop-c
decreases-loop-c l = length l.rest
