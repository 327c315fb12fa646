use Rattle.virtd.proofs.Words.{none_is_offline}
use Rattle.virtd.proofs.at_once.offline.Goals as goal

pub returns-in-None-clause-none : goal.returns-in-None-clause-none
returns-in-None-clause-none g c = none_is_offline _ c.in-None.ensures
