use Rattle.std.proofs.Common.{refl}
use Rattle.domain_texts.specs.Title.{first_line}
use Rattle.domain_texts.proofs.title.title_of.Goals as goal

pub returns-in-None : goal.returns-in-None
unfolding first_line
returns-in-None c = rw c.in-None.is refl
