use Rattle.core_plan.proofs.Phasing.{is_phased_ended}
use Rattle.core_plan.proofs.phase_laws.is_phased_after_its_boot.Goals as goal

pub returns : goal.returns
returns c = is_phased_ended
