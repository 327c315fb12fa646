use Rattle.domain_core.proofs.Changing.{turns_change}
use Rattle.domain_core.proofs.cell_laws.turns_change.Goals as goal

pub returns : goal.returns
returns c = turns_change
