use Rattle.core_step_laws.proofs.Begins.{beginnings_keep}
use Rattle.core_step_laws.proofs.own_laws.beginnings_keep.Goals as goal

pub returns : goal.returns
returns c = beginnings_keep
