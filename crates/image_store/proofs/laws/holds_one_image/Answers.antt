use Rattle.image_store.proofs.Fields.{holds_one_image}
use Rattle.image_store.proofs.laws.holds_one_image.Goals as goal

pub returns : goal.returns
returns c = holds_one_image
