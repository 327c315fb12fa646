use Rattle.core_steps.proofs.Stepping.{exits_are}
use Rattle.core_steps.proofs.guest_laws.exits_are_turns.Goals as goal

pub returns : goal.returns
returns c = exits_are
