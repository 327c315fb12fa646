use Rattle.domain_core.proofs.Changing.{still_turns_change}
use Rattle.domain_core.proofs.cell_laws.still_turns_change.Goals as goal

pub returns : goal.returns
returns c = still_turns_change
