use Rattle.std.proofs.Common.{◌≡◌, ◌≤◌, ◌-◌, ◌^◌, []}
use Rattle.row_session.specs.Steps.{Going}
use Rattle.service_spec.specs.Activities.{activity}
use Rattle.row_session.proofs.calls.Calls.serve_pieces.Given as goal

abbrev pub invariant-loop-taken : goal.invariant-loop-taken
invariant-loop-taken g l = record {
  within : l.taken ≤ 2 ^ 62;
  going : Going g.D.Service.is_served g.D.Service.has_called (activity l.fn.runner.row (g.R.Random.drawn l.fn.random) l.fn.runner.next) (g.S.Source.left l.fn.source) (g.S.Source.left l.source) (g.K.Sink.held l.fn.sink) (g.K.Sink.held l.sink) l.feed.rest l.taken (activity l.runner.row (g.R.Random.drawn l.random) l.runner.next);
  none_ready : l.feed.ready ≡ [];
  source : g.S.Source.faults l.fn.source ≤ g.S.Source.faults l.source;
  sink : g.K.Sink.faults l.fn.sink ≤ g.K.Sink.faults l.sink;
  ready : g.D.Service.is_ready l.self.service.now l.runner.row;
}

abbrev pub decreases-loop-taken : goal.decreases-loop-taken
decreases-loop-taken g l = 2 ^ 62 - l.taken
