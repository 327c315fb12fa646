use Rattle.core_plan.proofs.Keeping.{phase_begins}
use Rattle.core_plan.proofs.phase_laws.phases_begin.Goals as goal

pub returns : goal.returns
returns c = phase_begins
