use Rattle.core_step_laws.proofs.Queueing.{queues_tell}
use Rattle.core_step_laws.proofs.own_laws.queues_tell.Goals as goal

pub returns : goal.returns
returns c = queues_tell
