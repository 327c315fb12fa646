use Rattle.core_step_laws.proofs.Watching.{takes_keep}
use Rattle.core_step_laws.proofs.own_laws.takes_keep.Goals as goal

pub returns : goal.returns
returns c = takes_keep
