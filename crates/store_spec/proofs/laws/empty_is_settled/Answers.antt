use Rattle.store_spec.proofs.Empty.{empty_is_settled}
use Rattle.store_spec.proofs.laws.empty_is_settled.Goals as goal

pub returns : goal.returns
returns c = empty_is_settled
