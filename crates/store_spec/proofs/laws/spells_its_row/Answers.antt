use Rattle.store_spec.proofs.Spelling.{spells_its_row}
use Rattle.store_spec.proofs.laws.spells_its_row.Goals as goal

pub returns : goal.returns
returns c = spells_its_row
