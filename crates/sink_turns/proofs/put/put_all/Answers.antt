use Rattle.std.proofs.Common.{arith}
use Rattle.std.proofs.Math.Seq.{take-add}
use Rattle.packet.proofs.Known.{Appends-then}
use Rattle.sink_turns.proofs.put.put_all.Goals as goal

pub loop-sent-preserved : goal.loop-sent-preserved
loop-sent-preserved g c =
    let kept = c.loop-sent.invariant in
    let put = c.in-Ok.ensures in
    let back = c.split_at.ensures.back in
    let more = rw back at put.bytes in
    record {
      within = omega (arith, put.bound, c.split_at.ensures.back_len);
      written = rw take-add (Appends-then _ _ _ _ _ kept.written more);
      later = omega (arith, put.cause.later, kept.later);
    }
