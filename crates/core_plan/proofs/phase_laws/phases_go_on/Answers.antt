use Rattle.core_plan.proofs.Keeping.{phase_goes_on}
use Rattle.core_plan.proofs.phase_laws.phases_go_on.Goals as goal

pub returns : goal.returns
returns c = phase_goes_on
