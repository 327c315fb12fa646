use Rattle.core_step_laws.proofs.Looks.{looks_keep}
use Rattle.core_step_laws.proofs.own_laws.looks_keep.Goals as goal

pub returns : goal.returns
returns c = looks_keep
