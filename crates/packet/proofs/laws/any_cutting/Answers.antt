use Rattle.packet.proofs.Running.{run_splits}
use Rattle.packet.proofs.laws.any_cutting.Goals as goal

pub returns : goal.returns
returns c = run_splits
