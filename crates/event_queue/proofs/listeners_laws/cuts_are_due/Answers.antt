use Rattle.event_queue.proofs.Cutting.{cuts_due_then}
use Rattle.event_queue.proofs.listeners_laws.cuts_are_due.Goals as goal

pub returns : goal.returns
returns c = cuts_due_then
