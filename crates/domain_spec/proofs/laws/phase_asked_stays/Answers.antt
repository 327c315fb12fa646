use Rattle.domain_spec.proofs.AskedProofs.{phase_asked_stays}
use Rattle.domain_spec.proofs.laws.phase_asked_stays.Goals as goal

pub returns : goal.returns
returns c = phase_asked_stays
