use Rattle.core_step_laws.proofs.Watching.{watches_keep}
use Rattle.core_step_laws.proofs.own_laws.watches_keep.Goals as goal

pub returns : goal.returns
returns c = watches_keep
