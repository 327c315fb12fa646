use Rattle.std.proofs.Common.{◌≡◌, ◌-◌, drop, length}
use Rattle.std.specs.Prelude.{chars}
use Rattle.std.specs.List.{flat_map}
use Rattle.text_spec.specs.Written.{in_value}
use Rattle.xml_print.specs.Room.{room}
use Rattle.xml_print.proofs.bytes.after_value.Given as goal

abbrev pub invariant-loop-c : goal.invariant-loop-c
invariant-loop-c l =
    l.rest - room (flat_map in_value (drop (length l.yielded) (chars l.value))) ≡ l.fn.left - room (flat_map in_value (chars l.value))
