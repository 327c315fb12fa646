use Rattle.core_step_laws.proofs.Queueing.{looks_queue}
use Rattle.core_step_laws.proofs.own_laws.looks_queue.Goals as goal

pub returns : goal.returns
returns c = looks_queue
