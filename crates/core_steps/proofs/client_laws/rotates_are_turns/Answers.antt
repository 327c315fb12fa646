use Rattle.core_steps.proofs.Rotated.{rotates_are}
use Rattle.core_steps.proofs.client_laws.rotates_are_turns.Goals as goal

pub returns : goal.returns
returns c = rotates_are
