use Rattle.core_steps.proofs.Rotated.{looks_are}
use Rattle.core_steps.proofs.client_laws.unrotated_are_looks.Goals as goal

pub returns : goal.returns
returns c = looks_are
