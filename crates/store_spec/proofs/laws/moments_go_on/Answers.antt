use Rattle.store_spec.proofs.Moments.{moments_go_on}
use Rattle.store_spec.proofs.laws.moments_go_on.Goals as goal

pub returns : goal.returns
returns c = moments_go_on
