use Rattle.core_plan.proofs.Finishing.{done_at_once}
use Rattle.core_plan.proofs.call_laws.is_done_at_once.Goals as goal

pub returns : goal.returns
returns c = done_at_once
