use Rattle.book_spec.proofs.StayProofs.{free_are_slots}
use Rattle.book_spec.proofs.laws.free_are_slots.Goals as goal

pub returns : goal.returns
returns c = free_are_slots
