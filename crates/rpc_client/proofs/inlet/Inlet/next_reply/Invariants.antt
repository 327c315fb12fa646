use Rattle.std.proofs.Common.{◌≡◌, ◌≤◌, ◌+◌, ◌-◌, ◌^◌, List, length}
use Rattle.wire_spec.specs.declared.message.Packet.{Packet}
use Rattle.rpc_client.specs.Inflow.{Hears, unread}
use Rattle.rpc_client.specs.Inlets.{Stands, seen}
use Rattle.rpc_client.proofs.inlet.Inlet.next_reply.Given as goal

abbrev pub invariant-loop-reply : goal.invariant-loop-reply
invariant-loop-reply g l = record {
  packets : List Packet;
  hears : Hears g.S.Source.left g.S.Source.faults (seen l.fn.self) (seen l.self) packets;
  stands : Stands l.self;
  later : g.S.Source.faults l.fn.self.source ≤ g.S.Source.faults l.self.source;
}

abbrev pub decreases-loop-reply : goal.decreases-loop-reply
decreases-loop-reply g l = (2 ^ 62 - l.self.taken) + length (unread (seen l.self))
