use Rattle.core_flight.proofs.Operated.{phase_is_left}
use Rattle.core_flight.proofs.phase_laws.done_phases_are_left.Goals as goal

pub returns : goal.returns
returns c = phase_is_left
