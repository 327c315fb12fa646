use Rattle.std.proofs.Common.{◌-◌, length}
use Rattle.packet.proofs.Streams.{Decoding}
use Rattle.packet.proofs.pieces.decode.Given as goal

abbrev pub invariant-loop-packet : goal.invariant-loop-packet
invariant-loop-packet l = Decoding l.fn.ready.items l.bytes l.ready.items l.used

abbrev pub decreases-loop-packet : goal.decreases-loop-packet
decreases-loop-packet l = length l.bytes - l.used
