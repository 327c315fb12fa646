use Rattle.domain_core.proofs.Shares.{free_begin}
use Rattle.domain_core.proofs.laws.free_shares_begin.Goals as goal

pub returns : goal.returns
returns c = free_begin
