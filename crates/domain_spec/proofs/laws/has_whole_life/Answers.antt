use Rattle.domain_spec.proofs.WholeLifeProofs.{has_whole_life}
use Rattle.domain_spec.proofs.laws.has_whole_life.Goals as goal

pub returns : goal.returns
returns c = has_whole_life
