use Rattle.std.proofs.Common.{length, ◌≡◌}
use Rattle.std.specs.Prelude.{find}
use Rattle.text_spec.specs.Look.{is_attribute}
use Rattle.xml_tables.proofs.look.value_among.Given as goal

abbrev pub invariant-loop-pair : goal.invariant-loop-pair
invariant-loop-pair l = find (is_attribute l.name) l.rest ≡ find (is_attribute l.name) l.fn.pairs

abbrev pub decreases-loop-pair : goal.decreases-loop-pair
decreases-loop-pair l = length l.rest
