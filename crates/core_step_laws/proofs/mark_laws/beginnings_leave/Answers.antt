use Rattle.core_step_laws.proofs.MarkedBegins.{beginnings_leave}
use Rattle.core_step_laws.proofs.mark_laws.beginnings_leave.Goals as goal

pub returns : goal.returns
returns c = beginnings_leave
