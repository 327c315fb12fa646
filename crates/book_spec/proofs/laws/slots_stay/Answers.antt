use Rattle.book_spec.proofs.StayProofs.{slots_stay}
use Rattle.book_spec.proofs.laws.slots_stay.Goals as goal

pub returns : goal.returns
returns c = slots_stay
