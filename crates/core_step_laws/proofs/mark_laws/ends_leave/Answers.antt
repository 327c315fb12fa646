use Rattle.core_step_laws.proofs.MarkedPhases.{ends_leave}
use Rattle.core_step_laws.proofs.mark_laws.ends_leave.Goals as goal

pub returns : goal.returns
returns c = ends_leave
