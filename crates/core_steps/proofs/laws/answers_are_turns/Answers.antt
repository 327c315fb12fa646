use Rattle.core_steps.proofs.Backs.{goes_back}
use Rattle.core_steps.proofs.laws.answers_are_turns.Goals as goal

pub returns : goal.returns
returns c = goes_back
