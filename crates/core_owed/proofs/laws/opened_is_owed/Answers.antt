use Rattle.core_owed.proofs.Turning.{opened_is_owed}
use Rattle.core_owed.proofs.laws.opened_is_owed.Goals as goal

pub returns : goal.returns
returns c = opened_is_owed
