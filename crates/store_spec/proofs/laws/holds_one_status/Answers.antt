use Rattle.store_spec.proofs.StatusSpelling.{holds_one_status}
use Rattle.store_spec.proofs.laws.holds_one_status.Goals as goal

pub returns : goal.returns
returns c = holds_one_status
