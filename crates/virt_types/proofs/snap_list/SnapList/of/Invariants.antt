use Rattle.std.proofs.Common.{◌≡◌, ◌++◌}
use Rattle.std.specs.Vec.Iter.{into_iter_items}
use Rattle.virt_types.specs.Snapshots.{IsRising}
use Rattle.virt_types.proofs.snap_list.SnapList.of.Given as goal

-- those that came are in the list, and the others rise after them
abbrev pub invariant-loop-snap : goal.invariant-loop-snap
invariant-loop-snap l = (l.list ≡ l.yielded) × IsRising (l.list ++ into_iter_items l.snap-iterator)
