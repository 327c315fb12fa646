use Rattle.core_step_laws.proofs.Others.{others_ask_on}
use Rattle.core_step_laws.proofs.mark_laws.others_ask_on.Goals as goal

pub returns : goal.returns
returns c = others_ask_on
