use Rattle.store_spec.proofs.Spelling.{other_lengths_are_refused}
use Rattle.store_spec.proofs.laws.other_lengths_are_refused.Goals as goal

pub returns : goal.returns
returns c = other_lengths_are_refused
