use Rattle.core_plan.proofs.Planning.{one_planned}
use Rattle.core_plan.proofs.call_laws.is_planned_by_one.Goals as goal

pub returns : goal.returns
returns c = one_planned
