use Rattle.core_step_laws.proofs.MarkedBacks.{answers_leave}
use Rattle.core_step_laws.proofs.mark_laws.answers_leave.Goals as goal

pub returns : goal.returns
returns c = answers_leave
