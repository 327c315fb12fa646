use Rattle.domain_spec.proofs.ChapterProofs.{rising_goes_on}
use Rattle.domain_spec.proofs.laws.rising_goes_on.Goals as goal

pub returns : goal.returns
returns c = rising_goes_on
