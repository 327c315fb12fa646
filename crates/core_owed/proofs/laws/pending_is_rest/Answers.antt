use Rattle.core_owed.proofs.Pending.{pending_is_rest}
use Rattle.core_owed.proofs.laws.pending_is_rest.Goals as goal

pub returns : goal.returns
returns c = pending_is_rest
