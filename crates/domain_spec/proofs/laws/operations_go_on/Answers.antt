use Rattle.domain_spec.proofs.WholeProofs.{whole_settles}
use Rattle.domain_spec.proofs.laws.operations_go_on.Goals as goal

pub returns : goal.returns
returns c = whole_settles
