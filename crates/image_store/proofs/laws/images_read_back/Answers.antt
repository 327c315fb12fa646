use Rattle.image_store.proofs.Fields.{images_read_back}
use Rattle.image_store.proofs.laws.images_read_back.Goals as goal

pub returns : goal.returns
returns c = images_read_back
