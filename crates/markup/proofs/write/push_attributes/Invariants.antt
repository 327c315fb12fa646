use Rattle.std.proofs.Common.{◌≡◌, ◌++◌, drop}
use Rattle.std.specs.List.{flat_map}
use Rattle.text_spec.specs.Written.{attribute_written}
use Rattle.markup.proofs.write.push_attributes.Given as goal

abbrev pub invariant-loop-pair : goal.invariant-loop-pair
invariant-loop-pair l =
    l.out.items ++ flat_map attribute_written (drop l.pair-index l.pairs) ≡ l.initial.out.items ++ flat_map attribute_written l.pairs
