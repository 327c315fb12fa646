use Rattle.packet.proofs.Going.{again}
use Rattle.packet.proofs.laws.read_again.Goals as goal

pub returns : goal.returns
returns c = again
