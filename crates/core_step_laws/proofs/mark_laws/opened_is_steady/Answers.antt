use Rattle.core_step_laws.proofs.Steadying.{opened_is_steady}
use Rattle.core_step_laws.proofs.mark_laws.opened_is_steady.Goals as goal

pub returns : goal.returns
returns c = opened_is_steady
