use Rattle.pool_core.proofs.Reasons.{tells-why}
use Rattle.pool_core.proofs.refusals.refused.Goals as goal

pub returns : goal.returns
returns c = tells-why _ c.why.result c.why.ensures
