use Rattle.core_flight.proofs.Operated.{refused_is_left}
use Rattle.core_flight.proofs.phase_laws.refused_calls_are_left.Goals as goal

pub returns : goal.returns
returns c = refused_is_left
