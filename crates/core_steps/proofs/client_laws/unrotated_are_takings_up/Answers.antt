use Rattle.core_steps.proofs.Rotated.{takings_up_are}
use Rattle.core_steps.proofs.client_laws.unrotated_are_takings_up.Goals as goal

pub returns : goal.returns
returns c = takings_up_are
