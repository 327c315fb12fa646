use Rattle.core_step_laws.proofs.Queueing.{operation_queues_tell}
use Rattle.core_step_laws.proofs.own_laws.operation_queues_tell.Goals as goal

pub returns : goal.returns
returns c = operation_queues_tell
