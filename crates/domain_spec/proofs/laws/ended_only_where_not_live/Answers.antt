use Rattle.domain_spec.proofs.CallLawProofs.{ended_only}
use Rattle.domain_spec.proofs.laws.ended_only_where_not_live.Goals as goal

pub returns : goal.returns
returns c = ended_only
