use Rattle.core_step_laws.proofs.MarkedLooks.{looks_leave}
use Rattle.core_step_laws.proofs.mark_laws.looks_leave.Goals as goal

pub returns : goal.returns
returns c = looks_leave
