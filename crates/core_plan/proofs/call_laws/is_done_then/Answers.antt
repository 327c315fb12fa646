use Rattle.core_plan.proofs.Going.{is_done_then}
use Rattle.core_plan.proofs.call_laws.is_done_then.Goals as goal

pub returns : goal.returns
returns c = is_done_then
