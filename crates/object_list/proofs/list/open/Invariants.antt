use Rattle.std.proofs.Common.{◌≡◌, ◌≤◌, ◌^◌, take}
use Rattle.book_spec.specs.Slots.{all_holders}
use Rattle.object_list.specs.Opening.{opened}
use Rattle.object_list.proofs.list.open.Given as goal

abbrev pub invariant-loop-slot : goal.invariant-loop-slot
invariant-loop-slot l = (l.table ≡ opened (take l.slot l.found)) × (all_holders l.table ≤ 2 ^ 62)
