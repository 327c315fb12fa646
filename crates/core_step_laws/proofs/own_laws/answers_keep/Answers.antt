use Rattle.core_step_laws.proofs.Backs.{answers_keep}
use Rattle.core_step_laws.proofs.own_laws.answers_keep.Goals as goal

pub returns : goal.returns
returns c = answers_keep
