use Rattle.domain_spec.proofs.PhaseBoots.{boots_rise}
use Rattle.domain_spec.proofs.laws.boots_never_fall.Goals as goal

pub returns : goal.returns
returns c = boots_rise
