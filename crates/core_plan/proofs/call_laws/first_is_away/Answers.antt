use Rattle.core_plan.proofs.Going.{first_is_away}
use Rattle.core_plan.proofs.call_laws.first_is_away.Goals as goal

pub returns : goal.returns
returns c = first_is_away
