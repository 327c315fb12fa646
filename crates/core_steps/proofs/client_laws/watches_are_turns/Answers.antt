use Rattle.core_steps.proofs.Watched.{watches_are}
use Rattle.core_steps.proofs.client_laws.watches_are_turns.Goals as goal

pub returns : goal.returns
returns c = watches_are
