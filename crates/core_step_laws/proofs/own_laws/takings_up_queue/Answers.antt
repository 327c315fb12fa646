use Rattle.core_step_laws.proofs.Queueing.{takings_up_queue}
use Rattle.core_step_laws.proofs.own_laws.takings_up_queue.Goals as goal

pub returns : goal.returns
returns c = takings_up_queue
