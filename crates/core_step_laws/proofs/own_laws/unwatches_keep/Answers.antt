use Rattle.core_step_laws.proofs.Watching.{unwatches_keep}
use Rattle.core_step_laws.proofs.own_laws.unwatches_keep.Goals as goal

pub returns : goal.returns
returns c = unwatches_keep
