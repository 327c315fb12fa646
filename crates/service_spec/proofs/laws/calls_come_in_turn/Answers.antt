use Rattle.service_spec.proofs.Running.{runs_in_turn}
use Rattle.service_spec.proofs.laws.calls_come_in_turn.Goals as goal

pub returns : goal.returns
returns g c = runs_in_turn g.D.Service.is_served g.D.Service.has_called
