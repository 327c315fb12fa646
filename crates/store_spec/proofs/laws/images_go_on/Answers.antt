use Rattle.store_spec.proofs.Crashes.{images_go_on}
use Rattle.store_spec.proofs.laws.images_go_on.Goals as goal

pub returns : goal.returns
returns c = images_go_on
