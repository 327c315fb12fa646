use Rattle.packet.proofs.Streams.{decoding_more}
use Rattle.packet.proofs.pieces.decode.Goals as goal

pub loop-packet-preserved : goal.loop-packet-preserved
loop-packet-preserved c =
    let found = rw (c.split_at.ensures.back, c.in-Whole.is) at c.in_ok-packet.ensures in
    decoding_more c.args.ready.now.items c.args.bytes.now c.loop-packet.ready.items c.push_back.new.self.items c.loop-packet.used c.in-Whole.size c.in-Whole.packet c.loop-packet.invariant c.in_ok-push_back-in-Whole.ensures.items found
