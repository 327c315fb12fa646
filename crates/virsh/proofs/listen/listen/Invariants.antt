use Rattle.std.proofs.Common.{◌≡◌, ◌-◌, None}
use Rattle.virsh.specs.Outside.{with_out}
use Rattle.virsh.proofs.Listens.{HasHeard}
use Rattle.virsh.proofs.listen.listen.Given as goal

abbrev pub invariant-loop-told : goal.invariant-loop-told
invariant-loop-told g l = record {
  heard : HasHeard g.D.S.Source.left g.D.S.Source.faults g.D.O.Sink.held g.D.O.Sink.faults l.domain l.count (l.count - l._told) l.fn.client l.client
      (g.D.Dial.given l.fn.dial).out (g.D.Dial.given l.dial).out;
  on : l.client.fault ≡ None;
  rest : g.D.Dial.given l.dial ≡ with_out (g.D.Dial.given l.dial).out (g.D.Dial.given l.fn.dial);
}
