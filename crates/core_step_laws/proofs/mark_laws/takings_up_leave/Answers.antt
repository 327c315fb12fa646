use Rattle.core_step_laws.proofs.MarkedBegins.{takings_up_leave}
use Rattle.core_step_laws.proofs.mark_laws.takings_up_leave.Goals as goal

pub returns : goal.returns
returns c = takings_up_leave
