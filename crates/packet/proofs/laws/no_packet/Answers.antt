use Rattle.packet.proofs.Lasting.{no_such_packet}
use Rattle.packet.proofs.laws.no_packet.Goals as goal

pub returns : goal.returns
returns c = no_such_packet
