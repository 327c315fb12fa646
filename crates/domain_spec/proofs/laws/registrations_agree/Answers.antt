use Rattle.domain_spec.proofs.ChapterProofs.{registrations_agree}
use Rattle.domain_spec.proofs.laws.registrations_agree.Goals as goal

pub returns : goal.returns
returns c = registrations_agree
