use Rattle.core_plan.proofs.PhaseGoing.{first_phase_is_away}
use Rattle.core_plan.proofs.phase_laws.first_phase_is_away.Goals as goal

pub returns : goal.returns
returns c = first_phase_is_away
