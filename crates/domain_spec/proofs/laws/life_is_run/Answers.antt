use Rattle.domain_spec.proofs.WholeRunProofs.{life_is_run}
use Rattle.domain_spec.proofs.laws.life_is_run.Goals as goal

pub returns : goal.returns
returns c = life_is_run
