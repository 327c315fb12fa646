use Rattle.std.proofs.Common.{map, vec_len}
use Rattle.pass_rows.proofs.Together.{Going}
use Rattle.pass_rows.proofs.row_list.RowListOf.joined.Given as goal

abbrev pub decreases-loop-row : goal.decreases-loop-row
decreases-loop-row g l = vec_len l.rows

abbrev pub invariant-loop-row : goal.invariant-loop-row
invariant-loop-row g l = Going g.L.Kept.meaning g.S.Kept.meaning g.D.Kept.meaning l.list l.store (map g.C.CellOf.place l.domains) l.fn.self.list l.rows.items l.all
