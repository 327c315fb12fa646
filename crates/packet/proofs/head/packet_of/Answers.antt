use Rattle.std.proofs.Common.{arith}
use Rattle.packet.proofs.Whole.{a_packet}
use Rattle.packet.proofs.head.packet_of.Goals as goal

pub returns : goal.returns
returns c = a_packet c.args.bytes.now c.in_ok-payload.payload c.args.size c.header_of-header.result (λ i. omega (arith, c.type_inv.bytes i)) c.requires.sound c.requires.word_there c.requires.size c.requires.all_there c.header_of-header.ensures c.in_ok-payload.ensures
