use Rattle.domain_spec.proofs.OwedProofs.{owed_exactly}
use Rattle.domain_spec.proofs.laws.owed_exactly.Goals as goal

pub returns : goal.returns
returns c = owed_exactly
