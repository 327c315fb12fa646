use Rattle.std.proofs.Common.{◌≡◌, length}
use Rattle.std.specs.Prelude.{reverse}
use Rattle.text_spec.specs.Character.{after_blanks}
use Rattle.markup.proofs.element.trimmed.Given as goal

abbrev pub invariant-loop-c : goal.invariant-loop-c
invariant-loop-c l = reverse (after_blanks (reverse (after_blanks l.chars))) ≡ reverse (after_blanks (reverse l.rest))

abbrev pub decreases-loop-c : goal.decreases-loop-c
decreases-loop-c l = length l.rest
