use Rattle.core_dispatch.proofs.Outlasts.{outlasts_boots}
use Rattle.core_dispatch.proofs.laws.parts_outlast_boots.Goals as goal

pub returns : goal.returns
returns c = outlasts_boots
