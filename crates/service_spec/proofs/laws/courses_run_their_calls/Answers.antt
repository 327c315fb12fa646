use Rattle.service_spec.proofs.Running.{courses_run}
use Rattle.service_spec.proofs.laws.courses_run_their_calls.Goals as goal

pub returns : goal.returns
returns g c = courses_run g.D.Service.is_served g.D.Service.has_called
