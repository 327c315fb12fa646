use Rattle.domain_spec.proofs.PendingProofs.{pending_is_owed}
use Rattle.domain_spec.proofs.laws.pending_is_owed.Goals as goal

pub returns : goal.returns
returns c = pending_is_owed
