use Rattle.packet.proofs.Unique.{one_split}
use Rattle.packet.proofs.laws.one_way.Goals as goal

pub returns : goal.returns
returns c = one_split
