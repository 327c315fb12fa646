use Rattle.sink_turns.proofs.Closing.{has_closed}
use Rattle.sink_turns.proofs.end.close.Goals as goal

pub returns : goal.returns
returns g c = has_closed _ _ _ _ _ c.close.ensures c.end.ensures
