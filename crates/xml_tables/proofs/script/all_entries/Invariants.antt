use Rattle.std.proofs.Common.{◌≡◌, length}
use Rattle.text_spec.specs.GuestScript.{all_entries, pieces_of}
use Rattle.xml_tables.specs.Pieces.{behind}
use Rattle.xml_tables.proofs.script.all_entries.Given as goal

abbrev pub invariant-loop-entry : goal.invariant-loop-entry
invariant-loop-entry l =
    behind l.found.items (all_entries (pieces_of l.rest)) ≡ all_entries (pieces_of l.text)

abbrev pub decreases-loop-entry : goal.decreases-loop-entry
decreases-loop-entry l = length l.rest
