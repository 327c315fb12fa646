use Rattle.domain_spec.proofs.TurnProofs.{every_run}
use Rattle.domain_spec.proofs.laws.every_run_is_legal.Goals as goal

pub returns : goal.returns
returns c = every_run
