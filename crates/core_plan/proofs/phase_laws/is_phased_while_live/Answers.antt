use Rattle.core_plan.proofs.Phasing.{is_phased_live}
use Rattle.core_plan.proofs.phase_laws.is_phased_while_live.Goals as goal

pub returns : goal.returns
returns c = is_phased_live
