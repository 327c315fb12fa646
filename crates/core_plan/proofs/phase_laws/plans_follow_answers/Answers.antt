use Rattle.core_plan.proofs.Following.{plans_follow}
use Rattle.core_plan.proofs.phase_laws.plans_follow_answers.Goals as goal

pub returns : goal.returns
returns c = plans_follow
