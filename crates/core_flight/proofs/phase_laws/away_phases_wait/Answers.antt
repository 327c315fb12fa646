use Rattle.core_flight.proofs.Operated.{away_phase_waits}
use Rattle.core_flight.proofs.phase_laws.away_phases_wait.Goals as goal

pub returns : goal.returns
returns c = away_phase_waits
