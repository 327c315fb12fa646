use Rattle.core_step_laws.proofs.Owning.{others_have_none}
use Rattle.core_step_laws.proofs.mark_laws.others_have_none.Goals as goal

pub returns : goal.returns
returns c = others_have_none
