use Rattle.book_spec.proofs.HoldProofs.{others_hold_the_same}
use Rattle.book_spec.proofs.laws.others_hold_the_same.Goals as goal

pub returns : goal.returns
returns c = others_hold_the_same
