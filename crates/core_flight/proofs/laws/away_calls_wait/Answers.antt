use Rattle.core_flight.proofs.Turned.{away_waits}
use Rattle.core_flight.proofs.laws.away_calls_wait.Goals as goal

pub returns : goal.returns
returns c = away_waits
