use Rattle.core_steps.proofs.Watched.{leaves_are}
use Rattle.core_steps.proofs.client_laws.leaves_are_turns.Goals as goal

pub returns : goal.returns
returns c = leaves_are
