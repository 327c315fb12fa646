use Rattle.image_store.proofs.Fields.{images_are_right}
use Rattle.image_store.proofs.laws.images_are_right.Goals as goal

pub returns : goal.returns
returns c = images_are_right
