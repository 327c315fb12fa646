use Rattle.packet.proofs.Going.{whole_once}
use Rattle.packet.proofs.laws.whole_stream.Goals as goal

pub returns : goal.returns
returns c = whole_once
