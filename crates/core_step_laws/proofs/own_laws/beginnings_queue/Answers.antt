use Rattle.core_step_laws.proofs.Queueing.{beginnings_queue}
use Rattle.core_step_laws.proofs.own_laws.beginnings_queue.Goals as goal

pub returns : goal.returns
returns c = beginnings_queue
