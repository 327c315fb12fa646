use Rattle.lane_workers.proofs.Steps.{has_said}
use Rattle.lane_workers.proofs.working.say.Goals as goal

pub returns : goal.returns
returns g c = has_said c.args.message.now _ c.args.worker.lane c.is_empty-more.new.self c.args.worker.row c.say_once-pass.result.1 c.stop_of.result c.args.worker.pass c.say_once-pass.result.0 c.say_once-pass.ensures.said c.is_empty-more.ensures.same c.stop_of.ensures
