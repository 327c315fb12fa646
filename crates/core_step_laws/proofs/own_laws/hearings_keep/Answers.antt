use Rattle.core_step_laws.proofs.Hearing.{hearings_keep}
use Rattle.core_step_laws.proofs.own_laws.hearings_keep.Goals as goal

pub returns : goal.returns
returns c = hearings_keep
