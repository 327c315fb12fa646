use Rattle.image_store.proofs.There.{images_stay}
use Rattle.image_store.proofs.laws.images_stay.Goals as goal

pub returns : goal.returns
returns c = images_stay
