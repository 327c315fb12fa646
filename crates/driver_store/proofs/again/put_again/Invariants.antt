use Rattle.std.proofs.Common.{◌≡◌, ◌≤◌, ◌++◌}
use Rattle.std.specs.Vec.Iter.{into_iter_items}
use Rattle.driver_store.specs.Again.{HasPut}
use Rattle.driver_store.proofs.again.put_again.Given as goal

abbrev pub ghost-change : goal.ghost-change
ghost-change g a = 0

-- those that came were made, and the others are left
abbrev pub invariant-loop-change : goal.invariant-loop-change
invariant-loop-change g l = record {
  whole : l.yielded ++ into_iter_items l.change-iterator ≡ l.fn.again;
  put : HasPut l.yielded l.fn.keeper l.keeper;
  faults : g.F.Files.faults l.fn.keeper.files ≤ g.F.Files.faults l.keeper.files;
}
