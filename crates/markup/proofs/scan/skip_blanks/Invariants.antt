use Rattle.std.proofs.Common.{◌≡◌, ◌≤◌, length}
use Rattle.text_spec.specs.Character.{after_blanks}
use Rattle.markup.proofs.scan.skip_blanks.Given as goal

abbrev pub invariant-loop-c : goal.invariant-loop-c
invariant-loop-c l = (after_blanks l.chars ≡ after_blanks l.rest) × (length l.rest ≤ length l.chars)

abbrev pub decreases-loop-c : goal.decreases-loop-c
decreases-loop-c l = length l.rest
