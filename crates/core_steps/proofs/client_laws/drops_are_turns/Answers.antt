use Rattle.core_steps.proofs.Took.{drops_are}
use Rattle.core_steps.proofs.client_laws.drops_are_turns.Goals as goal

pub returns : goal.returns
returns c = drops_are
