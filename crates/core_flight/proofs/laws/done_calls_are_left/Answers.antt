use Rattle.core_flight.proofs.Turned.{done_is_left}
use Rattle.core_flight.proofs.laws.done_calls_are_left.Goals as goal

pub returns : goal.returns
returns c = done_is_left
