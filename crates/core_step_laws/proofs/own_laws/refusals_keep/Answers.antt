use Rattle.core_step_laws.proofs.Leaves.{refusals_keep}
use Rattle.core_step_laws.proofs.own_laws.refusals_keep.Goals as goal

pub returns : goal.returns
returns c = refusals_keep
