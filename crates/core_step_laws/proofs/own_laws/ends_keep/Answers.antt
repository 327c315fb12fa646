use Rattle.core_step_laws.proofs.Phases.{ends_keep}
use Rattle.core_step_laws.proofs.own_laws.ends_keep.Goals as goal

pub returns : goal.returns
returns c = ends_keep
