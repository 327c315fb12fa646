use Rattle.core_plan.proofs.Keeping.{phase_plan_stays}
use Rattle.core_plan.proofs.phase_laws.plans_stay.Goals as goal

pub returns : goal.returns
returns c = phase_plan_stays
