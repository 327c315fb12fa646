use Rattle.core_plan.proofs.Keeping.{phase_exit_keeps}
use Rattle.core_plan.proofs.phase_laws.ends_of_boots_keep_phases.Goals as goal

pub returns : goal.returns
returns c = phase_exit_keeps
