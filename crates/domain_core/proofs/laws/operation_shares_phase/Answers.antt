use Rattle.domain_core.proofs.Shares.{share_phase}
use Rattle.domain_core.proofs.laws.operation_shares_phase.Goals as goal

pub returns : goal.returns
returns c = share_phase
