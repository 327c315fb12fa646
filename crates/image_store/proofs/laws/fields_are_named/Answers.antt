use Rattle.image_store.proofs.Fields.{fields_are_named}
use Rattle.image_store.proofs.laws.fields_are_named.Goals as goal

pub returns : goal.returns
returns c = fields_are_named
