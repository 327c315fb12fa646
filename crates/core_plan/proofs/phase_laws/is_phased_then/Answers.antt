use Rattle.core_plan.proofs.PhaseGoing.{is_phased_then}
use Rattle.core_plan.proofs.phase_laws.is_phased_then.Goals as goal

pub returns : goal.returns
returns c = is_phased_then
