use Rattle.domain_spec.proofs.ClosedProofs.{closed_own}
use Rattle.domain_spec.proofs.laws.closed_under_its_number.Goals as goal

pub returns : goal.returns
returns c = closed_own
