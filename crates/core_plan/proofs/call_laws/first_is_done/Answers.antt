use Rattle.core_plan.proofs.Going.{first_is_done}
use Rattle.core_plan.proofs.call_laws.first_is_done.Goals as goal

pub returns : goal.returns
returns c = first_is_done
