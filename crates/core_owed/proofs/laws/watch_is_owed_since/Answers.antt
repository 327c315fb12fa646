use Rattle.core_owed.proofs.Pending.{watch_is_owed_since}
use Rattle.core_owed.proofs.laws.watch_is_owed_since.Goals as goal

pub returns : goal.returns
returns c = watch_is_owed_since
