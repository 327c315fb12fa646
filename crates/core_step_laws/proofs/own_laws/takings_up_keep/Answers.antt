use Rattle.core_step_laws.proofs.Begins.{takings_up_keep}
use Rattle.core_step_laws.proofs.own_laws.takings_up_keep.Goals as goal

pub returns : goal.returns
returns c = takings_up_keep
