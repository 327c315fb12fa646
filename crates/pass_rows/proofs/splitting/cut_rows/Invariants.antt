use Rattle.std.proofs.Common.{◌≡◌, ◌≤◌, ◌<◌, ◌+◌, length, vec_len}
use Rattle.std.specs.List.{All}
use Rattle.std.specs.Vec.{vec_capacity}
use Rattle.pass_rows.specs.Rows.{IsCutOffRow, fewer_row}
use Rattle.pass_rows.proofs.splitting.cut_rows.Given as goal

abbrev pub decreases-loop-blank : goal.decreases-loop-blank
decreases-loop-blank g l = vec_len l.blanks

abbrev pub invariant-loop-blank : goal.invariant-loop-blank
invariant-loop-blank g l = record {
  row : l.row ≡ fewer_row (length l.rows.items) l.fn.row;
  count : length l.rows.items + length l.blanks.items ≡ length l.fn.blanks.items;
  width : All (λ room. length l.fn.row.domains ≤ room) l.blanks.items;
  new : All (IsCutOffRow g.L.Kept.meaning g.S.Kept.meaning g.D.Kept.meaning l.fn.row) l.rows.items;
  room : length l.fn.blanks.items < vec_capacity l.rows;
}
