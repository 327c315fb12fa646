use Rattle.std.proofs.Common.{◌≡◌, ◌+◌, length}
use Rattle.std.specs.List.{prefix_len}
use Rattle.text_spec.specs.GuestScript.{not_separator}
use Rattle.xml_tables.proofs.script.piece_length.Given as goal

abbrev pub invariant-loop-byte : goal.invariant-loop-byte
invariant-loop-byte l =
    (prefix_len not_separator l.bytes ≡ l.count + prefix_len not_separator l.rest) × (l.count + length l.rest ≡ length l.bytes)

abbrev pub decreases-loop-byte : goal.decreases-loop-byte
decreases-loop-byte l = length l.rest
