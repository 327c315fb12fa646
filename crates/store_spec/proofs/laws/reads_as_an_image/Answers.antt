use Rattle.store_spec.proofs.Crashes.{reads_as_an_image}
use Rattle.store_spec.proofs.laws.reads_as_an_image.Goals as goal

pub returns : goal.returns
returns c = reads_as_an_image
