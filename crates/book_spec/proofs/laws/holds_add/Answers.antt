use Rattle.book_spec.proofs.HoldProofs.{holds_add}
use Rattle.book_spec.proofs.laws.holds_add.Goals as goal

pub returns : goal.returns
returns c = holds_add
