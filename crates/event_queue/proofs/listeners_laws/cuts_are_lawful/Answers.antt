use Rattle.event_queue.proofs.Lawful.{cuts_are_lawful}
use Rattle.event_queue.proofs.listeners_laws.cuts_are_lawful.Goals as goal

pub returns : goal.returns
returns c = cuts_are_lawful
