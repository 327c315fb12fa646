use Rattle.core_plan.proofs.PhaseGoing.{phase_stays_away}
use Rattle.core_plan.proofs.phase_laws.phase_stays_away.Goals as goal

pub returns : goal.returns
returns c = phase_stays_away
