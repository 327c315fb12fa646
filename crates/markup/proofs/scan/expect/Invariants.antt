use Rattle.std.proofs.Common.{◌≡◌, ◌≤◌, length}
use Rattle.text_spec.specs.Reading.{expect as spec_expect}
use Rattle.markup.proofs.scan.expect.Given as goal

abbrev pub invariant-loop-wanted : goal.invariant-loop-wanted
invariant-loop-wanted l =
    (spec_expect l.told l.word l.chars ≡ spec_expect l.told l.left l.rest) × (length l.rest ≤ length l.chars)

abbrev pub decreases-loop-wanted : goal.decreases-loop-wanted
decreases-loop-wanted l = length l.left
