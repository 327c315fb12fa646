use Rattle.std.proofs.Common.{◌≡◌, ◌-◌, drop, length}
use Rattle.std.specs.Prelude.{chars}
use Rattle.std.specs.List.{flat_map}
use Rattle.text_spec.specs.Written.{in_text}
use Rattle.xml_print.specs.Room.{room}
use Rattle.xml_print.proofs.bytes.after_text.Given as goal

abbrev pub invariant-loop-c : goal.invariant-loop-c
invariant-loop-c l =
    l.rest - room (flat_map in_text (drop (length l.yielded) (chars l.text))) ≡ l.fn.left - room (flat_map in_text (chars l.text))
