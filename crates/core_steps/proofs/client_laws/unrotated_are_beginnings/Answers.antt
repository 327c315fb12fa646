use Rattle.core_steps.proofs.Rotated.{beginnings_are}
use Rattle.core_steps.proofs.client_laws.unrotated_are_beginnings.Goals as goal

pub returns : goal.returns
returns c = beginnings_are
