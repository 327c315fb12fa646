use Rattle.std.proofs.Common.{◌≡◌, ◌≤◌, length}
use Rattle.text_spec.specs.Declaration as spec
use Rattle.markup.proofs.declaration.expect_in_any_case.Given as goal

abbrev pub invariant-loop-wanted : goal.invariant-loop-wanted
invariant-loop-wanted l =
    (spec.expect_in_any_case l.told l.word l.chars ≡ spec.expect_in_any_case l.told l.left l.rest) × (length l.rest ≤ length l.chars)

abbrev pub decreases-loop-wanted : goal.decreases-loop-wanted
decreases-loop-wanted l = length l.left
