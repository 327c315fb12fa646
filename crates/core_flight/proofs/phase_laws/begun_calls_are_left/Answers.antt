use Rattle.core_flight.proofs.Operated.{begun_is_left}
use Rattle.core_flight.proofs.phase_laws.begun_calls_are_left.Goals as goal

pub returns : goal.returns
returns c = begun_is_left
