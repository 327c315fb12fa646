use Rattle.book_spec.proofs.HoldProofs.{given_is_held}
use Rattle.book_spec.proofs.laws.given_is_held.Goals as goal

pub returns : goal.returns
returns c = given_is_held
