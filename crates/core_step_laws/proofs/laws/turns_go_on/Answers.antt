use Rattle.core_step_laws.proofs.Chapters.{turns_go_on}
use Rattle.core_step_laws.proofs.laws.turns_go_on.Goals as goal

pub returns : goal.returns
returns c = turns_go_on
