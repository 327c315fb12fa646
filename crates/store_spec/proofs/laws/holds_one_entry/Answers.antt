use Rattle.store_spec.proofs.Spelling.{holds_one_entry}
use Rattle.store_spec.proofs.laws.holds_one_entry.Goals as goal

pub returns : goal.returns
returns c = holds_one_entry
