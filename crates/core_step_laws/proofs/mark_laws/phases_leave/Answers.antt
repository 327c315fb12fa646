use Rattle.core_step_laws.proofs.MarkedPhases.{phases_leave}
use Rattle.core_step_laws.proofs.mark_laws.phases_leave.Goals as goal

pub returns : goal.returns
returns c = phases_leave
