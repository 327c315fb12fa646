use Rattle.def_keeper.proofs.OpeningCrashes.{openings_keep_definitions}
use Rattle.def_keeper.proofs.laws.openings_keep_definitions.Goals as goal

pub returns : goal.returns
returns c = openings_keep_definitions
