use Rattle.core_step_laws.proofs.Phases.{phases_keep}
use Rattle.core_step_laws.proofs.own_laws.phases_keep.Goals as goal

pub returns : goal.returns
returns c = phases_keep
