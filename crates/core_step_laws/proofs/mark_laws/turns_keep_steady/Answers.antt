use Rattle.core_step_laws.proofs.Steadying.{turns_keep_steady}
use Rattle.core_step_laws.proofs.mark_laws.turns_keep_steady.Goals as goal

pub returns : goal.returns
returns c = turns_keep_steady
