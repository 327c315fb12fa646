use Rattle.std.proofs.Common.{◌≡◌, ◌-◌, drop}
use Rattle.std.specs.List.{flat_map}
use Rattle.text_spec.specs.Written.{attribute_written}
use Rattle.xml_print.specs.Room.{room}
use Rattle.xml_print.proofs.bytes.after_attributes.Given as goal

abbrev pub invariant-loop-pair : goal.invariant-loop-pair
invariant-loop-pair l =
    l.rest - room (flat_map attribute_written (drop l.pair-index l.pairs)) ≡ l.fn.left - room (flat_map attribute_written l.pairs)
