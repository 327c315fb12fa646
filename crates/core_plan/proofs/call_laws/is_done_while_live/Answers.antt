use Rattle.core_plan.proofs.Finishing.{is_done_live}
use Rattle.core_plan.proofs.call_laws.is_done_while_live.Goals as goal

pub returns : goal.returns
returns c = is_done_live
