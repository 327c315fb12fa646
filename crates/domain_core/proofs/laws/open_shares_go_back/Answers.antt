use Rattle.domain_core.proofs.Shares.{open_back}
use Rattle.domain_core.proofs.laws.open_shares_go_back.Goals as goal

pub returns : goal.returns
returns c = open_back
