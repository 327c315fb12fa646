use Rattle.core_plan.proofs.PhaseGoing.{first_phase_is_done}
use Rattle.core_plan.proofs.phase_laws.first_phase_is_done.Goals as goal

pub returns : goal.returns
returns c = first_phase_is_done
