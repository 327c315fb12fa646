use Rattle.packet.proofs.Going.{split_adds}
use Rattle.packet.proofs.laws.more_bytes.Goals as goal

pub returns : goal.returns
returns c = split_adds
