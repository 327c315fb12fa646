use Rattle.core_step_laws.proofs.Calls.{calls_stay}
use Rattle.core_step_laws.proofs.laws.calls_stay.Goals as goal

pub returns : goal.returns
returns c = calls_stay
