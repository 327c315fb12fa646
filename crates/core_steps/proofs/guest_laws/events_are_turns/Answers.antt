use Rattle.core_steps.proofs.Stepping.{events_are}
use Rattle.core_steps.proofs.guest_laws.events_are_turns.Goals as goal

pub returns : goal.returns
returns c = events_are
