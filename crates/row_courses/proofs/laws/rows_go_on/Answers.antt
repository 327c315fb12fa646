use Rattle.row_courses.proofs.Holding.{rows_go_on}
use Rattle.row_courses.proofs.laws.rows_go_on.Goals as goal

pub returns : goal.returns
returns g c = rows_go_on g.D.Service.is_served g.D.Service.has_called
