use Rattle.pass_rows.proofs.Cells.{rows_gather}
use Rattle.pass_rows.proofs.laws.rows_gather.Goals as goal

pub returns : goal.returns
returns g c = rows_gather g.L.Kept.meaning g.S.Kept.meaning g.D.Kept.meaning _
