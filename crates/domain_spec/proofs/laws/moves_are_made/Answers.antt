use Rattle.domain_spec.proofs.WholeMoveProofs.{moves_are_made}
use Rattle.domain_spec.proofs.laws.moves_are_made.Goals as goal

pub returns : goal.returns
returns c = moves_are_made
