use Rattle.std.proofs.Common.{◌≡◌, ◌-◌, [], None, length}
use Rattle.virsh.specs.Calls.{Asked}
use Rattle.virsh.proofs.calls.ask_all.Given as goal

abbrev pub invariant-calls : goal.invariant-calls
invariant-calls g l = record {
  answered : Asked g.S.Source.left g.S.Source.faults g.K.Sink.held g.K.Sink.faults l.job l.xml [] l.fn.client l.values l.client;
  on : l.client.fault ≡ None;
}

abbrev pub decreases-calls : goal.decreases-calls
decreases-calls g l = 3 - length l.values
