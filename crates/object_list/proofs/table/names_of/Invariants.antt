use Rattle.std.proofs.Common.{◌≡◌, take}
use Rattle.object_list.specs.Names.{rows_of}
use Rattle.object_list.proofs.table.names_of.Given as goal

abbrev pub invariant-loop-slot : goal.invariant-loop-slot
invariant-loop-slot l = l.names.items ≡ rows_of l.rows (take l.slot-index l.slots)
