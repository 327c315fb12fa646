use Rattle.core_flight.proofs.Operated.{end_is_left}
use Rattle.core_flight.proofs.phase_laws.operations_end.Goals as goal

pub returns : goal.returns
returns c = end_is_left
