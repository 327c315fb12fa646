use Rattle.row_courses.proofs.Holding.{answers_hold}
use Rattle.row_courses.proofs.laws.answers_hold_to_the_end.Goals as goal

pub returns : goal.returns
returns g c = answers_hold g.D.Service.is_served g.D.Service.has_called
