use Rattle.sink_turns.proofs.Putting.{takes_both, takes_front}
use Rattle.sink_turns.proofs.put.put_both.Goals as goal

pub returns-in-Ok-clause-taken : goal.returns-in-Ok-clause-taken
returns-in-Ok-clause-taken g c = takes_both _ _ _ _ _ _ c.put_after.result c.in-Ok.ensures.taken c.put_after.ensures.taken

pub returns-in-Err-clause-taken : goal.returns-in-Err-clause-taken
returns-in-Err-clause-taken g c = takes_front _ _ _ _ _ c.in-Err.ensures.taken
