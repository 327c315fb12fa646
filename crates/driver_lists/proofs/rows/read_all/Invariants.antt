use Rattle.std.proofs.Common.{map, take, Ok}
use Rattle.driver_cells.specs.Known.{known}
use Rattle.driver_lists.specs.Reading.{HasReadAll, PassesGo}
use Rattle.driver_lists.proofs.rows.read_all.Given as goal

abbrev pub invariant-loop-at : goal.invariant-loop-at
invariant-loop-at g l = record {
  go : PassesGo l.fn.passes l.passes;
  read : HasReadAll (take l.at-index l.names) (map known l.fn.passes) (map known l.passes) (Ok l.rows.items);
}
