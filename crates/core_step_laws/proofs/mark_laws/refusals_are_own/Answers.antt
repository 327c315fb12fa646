use Rattle.core_step_laws.proofs.Owning.{refusals_are_own}
use Rattle.core_step_laws.proofs.mark_laws.refusals_are_own.Goals as goal

pub returns : goal.returns
returns c = refusals_are_own
