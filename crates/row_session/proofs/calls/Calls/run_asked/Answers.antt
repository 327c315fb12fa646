use Rattle.row_session.proofs.Fits.{can_reply}
use Rattle.row_session.proofs.calls.Calls.run_asked.Goals as goal

pub returns-clause-told : goal.returns-clause-told
returns-clause-told g c = record {
  answered = rw c.requires.read c.ask-row.ensures.told;
  next = c.after.ensures;
  closes = rw c.requires.read c.ask-row.ensures.closes;
  sayable = can_reply _ _ _ _ c.requires.found c.ask-row.ensures.sayable;
}
