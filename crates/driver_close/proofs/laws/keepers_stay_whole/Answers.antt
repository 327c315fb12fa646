use Rattle.driver_close.proofs.Parts.{still_whole}
use Rattle.driver_close.proofs.laws.keepers_stay_whole.Goals as goal

pub returns : goal.returns
returns g c = still_whole
