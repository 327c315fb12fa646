use Rattle.std.proofs.Common.{◌≡◌, ◌≤◌, ◌+◌, ◌-◌, ◌^◌, List, length}
use Rattle.wire_spec.specs.declared.message.Packet.{Packet}
use Rattle.rpc_client.specs.Inflow.{Hears, unread}
use Rattle.rpc_client.specs.Inlets.{Stands, seen}
use Rattle.rpc_client.proofs.inlet.Inlet.next_event.Given as goal

abbrev pub invariant-loop-self : goal.invariant-loop-self
invariant-loop-self g l = record {
  packets : List Packet;
  hears : Hears g.S.Source.left g.S.Source.faults (seen l.fn.self) (seen l.self) packets;
  stands : Stands l.self;
  later : g.S.Source.faults l.fn.self.source ≤ g.S.Source.faults l.self.source;
}

abbrev pub decreases-loop-self : goal.decreases-loop-self
decreases-loop-self g l = (2 ^ 62 - l.self.taken) + length (unread (seen l.self))
