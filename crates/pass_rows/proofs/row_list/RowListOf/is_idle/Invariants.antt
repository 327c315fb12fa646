use Rattle.std.proofs.Common.{take}
use Rattle.std.specs.List.{All}
use Rattle.pass_rows.specs.Rows.{IsIdleRow}
use Rattle.pass_rows.proofs.row_list.RowListOf.is_idle.Given as goal

abbrev pub invariant-loop-row : goal.invariant-loop-row
invariant-loop-row g l = All (IsIdleRow g.L.Kept.meaning g.S.Kept.meaning g.D.Kept.meaning) (take l.row-index l.row-items)
