use Rattle.std.proofs.Common.{◌≡◌, ◌≤◌, ◌-◌, ◌^◌, []}
use Rattle.rpc_client.specs.Inflow.{Hears}
use Rattle.rpc_client.specs.Inlets.{Stands, seen}
use Rattle.rpc_client.proofs.inlet.Inlet.next_packet.Given as goal

abbrev pub invariant-loop-packet : goal.invariant-loop-packet
invariant-loop-packet g l = record {
  hears : Hears g.S.Source.left g.S.Source.faults (seen l.fn.self) (seen l.self) [];
  stands : Stands l.self;
  later : g.S.Source.faults l.fn.self.source ≤ g.S.Source.faults l.self.source;
  events : l.self.events.items ≡ l.fn.self.events.items;
}

abbrev pub decreases-loop-packet : goal.decreases-loop-packet
decreases-loop-packet g l = 2 ^ 62 - l.self.taken
