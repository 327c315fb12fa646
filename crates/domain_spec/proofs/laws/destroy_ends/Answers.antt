use Rattle.domain_spec.proofs.CallLawProofs.{destroy_now_ends}
use Rattle.domain_spec.proofs.laws.destroy_ends.Goals as goal

pub returns : goal.returns
returns c = destroy_now_ends
