use Rattle.core_step_laws.proofs.Owning.{own_are_all}
use Rattle.core_step_laws.proofs.mark_laws.own_are_all.Goals as goal

pub returns : goal.returns
returns c = own_are_all
