use Rattle.core_step_laws.proofs.Owning.{some_leave_none}
use Rattle.core_step_laws.proofs.mark_laws.some_leave_none.Goals as goal

pub returns : goal.returns
returns c = some_leave_none
