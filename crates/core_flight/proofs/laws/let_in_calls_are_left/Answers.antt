use Rattle.core_flight.proofs.Turned.{let_in_is_left}
use Rattle.core_flight.proofs.laws.let_in_calls_are_left.Goals as goal

pub returns : goal.returns
returns c = let_in_is_left
