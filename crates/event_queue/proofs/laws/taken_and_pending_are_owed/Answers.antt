use Rattle.event_queue.proofs.WholeProofs.{owes_taken_and_pending}
use Rattle.event_queue.proofs.laws.taken_and_pending_are_owed.Goals as goal

pub returns : goal.returns
returns c = owes_taken_and_pending
