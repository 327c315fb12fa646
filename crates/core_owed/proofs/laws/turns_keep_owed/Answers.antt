use Rattle.core_owed.proofs.Turning.{turns_keep_owed}
use Rattle.core_owed.proofs.laws.turns_keep_owed.Goals as goal

pub returns : goal.returns
returns c = turns_keep_owed
