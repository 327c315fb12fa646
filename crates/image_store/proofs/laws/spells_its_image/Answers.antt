use Rattle.image_store.proofs.Fields.{spells_its_image}
use Rattle.image_store.proofs.laws.spells_its_image.Goals as goal

pub returns : goal.returns
returns c = spells_its_image
