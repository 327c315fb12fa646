use Rattle.domain_core.proofs.Shares.{share_end}
use Rattle.domain_core.proofs.laws.operation_shares_end.Goals as goal

pub returns : goal.returns
returns c = share_end
