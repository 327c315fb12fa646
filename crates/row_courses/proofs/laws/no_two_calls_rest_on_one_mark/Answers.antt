use Rattle.row_courses.proofs.Holding.{calls_apart}
use Rattle.row_courses.proofs.laws.no_two_calls_rest_on_one_mark.Goals as goal

pub returns : goal.returns
returns g c = calls_apart g.D.Service.is_served g.D.Service.has_called
