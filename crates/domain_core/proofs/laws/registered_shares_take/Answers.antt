use Rattle.domain_core.proofs.Registering.{registered_take}
use Rattle.domain_core.proofs.laws.registered_shares_take.Goals as goal

pub returns : goal.returns
returns c = registered_take
