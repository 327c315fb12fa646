use Rattle.core_plan.proofs.Going.{stays_away}
use Rattle.core_plan.proofs.call_laws.stays_away.Goals as goal

pub returns : goal.returns
returns c = stays_away
