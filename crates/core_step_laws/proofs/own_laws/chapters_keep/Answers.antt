use Rattle.core_step_laws.proofs.Leaves.{chapters_keep}
use Rattle.core_step_laws.proofs.own_laws.chapters_keep.Goals as goal

pub returns : goal.returns
returns c = chapters_keep
