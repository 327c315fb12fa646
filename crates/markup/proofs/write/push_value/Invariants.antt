use Rattle.std.proofs.Common.{◌≡◌, ◌++◌, length}
use Rattle.std.specs.List.{flat_map}
use Rattle.text_spec.specs.Written.{in_value}
use Rattle.markup.proofs.write.push_value.Given as goal

abbrev pub invariant-loop-c : goal.invariant-loop-c
invariant-loop-c l = l.out.items ++ flat_map in_value l.rest ≡ l.initial.out.items ++ flat_map in_value l.value

abbrev pub decreases-loop-c : goal.decreases-loop-c
decreases-loop-c l = length l.rest
