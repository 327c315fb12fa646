use Rattle.core_flight.proofs.Operated.{taken_up_is_left}
use Rattle.core_flight.proofs.phase_laws.taken_up_calls_are_left.Goals as goal

pub returns : goal.returns
returns c = taken_up_is_left
