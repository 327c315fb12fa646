use Rattle.turn_examples.proofs.Adding.{looked}
use Rattle.turn_examples.proofs.turns.look_once.Goals as goal

pub returns-clause-ok : goal.returns-clause-ok
returns-clause-ok g c = looked c.total_in-total.result c.args.pass c.in-Ok.turn c.total_in-total.new.turn c.leave.result c.in-Ok.ensures.turn c.total_in-total.ensures.total c.total_in-total.ensures.same c.leave.ensures
