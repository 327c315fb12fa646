use Rattle.domain_spec.proofs.ChapterProofs.{base_keeps}
use Rattle.domain_spec.proofs.laws.base_keeps.Goals as goal

pub returns : goal.returns
returns c = base_keeps
