use Rattle.core_mark_laws.proofs.StoredPlans.{stored_plans}
use Rattle.core_mark_laws.proofs.laws.stored_plans_stay.Goals as goal

pub returns : goal.returns
returns c = stored_plans
