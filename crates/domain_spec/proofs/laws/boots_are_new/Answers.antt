use Rattle.domain_spec.proofs.NewBoots.{boots_new}
use Rattle.domain_spec.proofs.laws.boots_are_new.Goals as goal

pub returns : goal.returns
returns c = boots_new
