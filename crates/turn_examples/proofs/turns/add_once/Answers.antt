use Rattle.turn_examples.proofs.Adding.{added_one, added_none}
use Rattle.turn_examples.proofs.turns.add_once.Goals as goal

pub returns-in-Ok-added-clause-ok : goal.returns-in-Ok-added-clause-ok
returns-in-Ok-added-clause-ok g c = added_one c.args.amount c.args.pass c.in-Ok.turn c.add_in-added.new.turn c.leave-pass.result c.in-Ok.ensures.turn c.in-Ok-added.ensures.ok c.add_in-added.ensures.same c.leave-pass.ensures

pub returns-in-Err-added-clause-err : goal.returns-in-Err-added-clause-err
returns-in-Err-added-clause-err g c = added_none c.args.pass c.in-Ok.turn c.add_in-added.new.turn c.leave-pass.result c.in-Ok.ensures.turn c.in-Err-added.ensures.err c.add_in-added.ensures.same c.leave-pass.ensures
