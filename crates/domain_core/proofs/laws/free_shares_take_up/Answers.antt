use Rattle.domain_core.proofs.Shares.{free_take_up}
use Rattle.domain_core.proofs.laws.free_shares_take_up.Goals as goal

pub returns : goal.returns
returns c = free_take_up
