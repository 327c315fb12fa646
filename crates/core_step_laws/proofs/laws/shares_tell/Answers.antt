use Rattle.core_step_laws.proofs.Telling.{shares_tell}
use Rattle.core_step_laws.proofs.laws.shares_tell.Goals as goal

pub returns : goal.returns
returns c = shares_tell
