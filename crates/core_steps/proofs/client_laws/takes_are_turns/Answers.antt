use Rattle.core_steps.proofs.Took.{takes_are}
use Rattle.core_steps.proofs.client_laws.takes_are_turns.Goals as goal

pub returns : goal.returns
returns c = takes_are
