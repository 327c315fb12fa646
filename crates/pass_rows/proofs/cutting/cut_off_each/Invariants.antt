use Rattle.std.proofs.Common.{◌≡◌, ◌++◌, ◌≤◌, length, map, take, drop}
use Rattle.std.specs.List.{All, AllZip}
use Rattle.std.specs.Vec.{vec_capacity}
use Rattle.turn_cell.specs.Passes.{IsCutOff}
use Rattle.pass_rows.specs.Cutting.{cell_of, fewer, HasParts}
use Rattle.pass_rows.proofs.cutting.cut_off_each.Given as goal

abbrev pub invariant-loop-i : goal.invariant-loop-i
invariant-loop-i g l = record {
  passes : l.passes.items ≡ map (fewer 1) (take l.i l.fn.passes.items) ++ drop l.i l.fn.passes.items;
  parts : AllZip (IsCutOff g.T.Kept.meaning) (take l.i l.fn.passes.items) l.parts.items;
  room : length l.fn.passes.items ≤ vec_capacity l.parts;
}
