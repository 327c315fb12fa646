use Rattle.core_step_laws.proofs.Leaves.{leavers_keep}
use Rattle.core_step_laws.proofs.own_laws.leavers_keep.Goals as goal

pub returns : goal.returns
returns c = leavers_keep
