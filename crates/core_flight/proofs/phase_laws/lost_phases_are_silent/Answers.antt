use Rattle.core_flight.proofs.Silent.{lost_phase_is_silent}
use Rattle.core_flight.proofs.phase_laws.lost_phases_are_silent.Goals as goal

pub returns : goal.returns
returns c = lost_phase_is_silent
