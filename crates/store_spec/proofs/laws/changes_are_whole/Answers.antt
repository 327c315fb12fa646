use Rattle.store_spec.proofs.Whole.{changes_are_whole}
use Rattle.store_spec.proofs.laws.changes_are_whole.Goals as goal

pub returns : goal.returns
returns c = changes_are_whole
