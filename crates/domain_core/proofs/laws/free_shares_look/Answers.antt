use Rattle.domain_core.proofs.Shares.{free_look}
use Rattle.domain_core.proofs.laws.free_shares_look.Goals as goal

pub returns : goal.returns
returns c = free_look
