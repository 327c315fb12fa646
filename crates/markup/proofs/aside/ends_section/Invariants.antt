use Rattle.std.proofs.Common.{◌≡◌, length}
use Rattle.text_spec.specs.Aside as spec
use Rattle.markup.proofs.aside.ends_section.Given as goal

abbrev pub invariant-loop-c : goal.invariant-loop-c
invariant-loop-c l =
    spec.ends_section 0 l.chars ≡ spec.ends_section l.brackets l.rest

abbrev pub decreases-loop-c : goal.decreases-loop-c
decreases-loop-c l = length l.rest
