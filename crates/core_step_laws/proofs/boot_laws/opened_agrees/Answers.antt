use Rattle.core_step_laws.proofs.Agreeing.{opened_agrees}
use Rattle.core_step_laws.proofs.boot_laws.opened_agrees.Goals as goal

pub returns : goal.returns
returns c = opened_agrees
