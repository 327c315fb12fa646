use Rattle.domain_spec.proofs.AskedProofs.{asked_stays}
use Rattle.domain_spec.proofs.laws.asked_stays.Goals as goal

pub returns : goal.returns
returns c = asked_stays
