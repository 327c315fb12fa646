use Rattle.core_plan.proofs.Phasing.{is_phased_at_once}
use Rattle.core_plan.proofs.phase_laws.is_phased_at_once.Goals as goal

pub returns : goal.returns
returns c = is_phased_at_once
