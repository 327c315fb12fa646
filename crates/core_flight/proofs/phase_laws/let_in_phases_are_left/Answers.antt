use Rattle.core_flight.proofs.Operated.{phase_let_in_is_left}
use Rattle.core_flight.proofs.phase_laws.let_in_phases_are_left.Goals as goal

pub returns : goal.returns
returns c = phase_let_in_is_left
