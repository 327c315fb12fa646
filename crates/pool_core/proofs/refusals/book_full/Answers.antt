use Rattle.std.specs.Fmt.{digits}
use Rattle.pool_core.proofs.refusals.book_full.Goals as goal

pub returns : goal.returns
unfolding digits
returns c = c.refused.ensures
