use Rattle.core_plan.proofs.Phasing.{is_phased_starved}
use Rattle.core_plan.proofs.phase_laws.is_phased_starved.Goals as goal

pub returns : goal.returns
returns c = is_phased_starved
