use Rattle.std.proofs.Common.{◌≡◌, ◌<◌, ◌≤◌, ◌+◌, ◌^◌, length}
use Rattle.row_session.specs.Steps.{ServesFront}
use Rattle.service_spec.specs.Activities.{activity}
use Rattle.row_session.proofs.calls.Calls.serve_ready.Given as goal

abbrev pub invariant-loop-packet : goal.invariant-loop-packet
invariant-loop-packet g l = record {
  serves : ServesFront g.D.Service.is_served g.D.Service.has_called l.fn.feed.ready l.feed.ready (activity l.fn.runner.row (g.R.Random.drawn l.fn.random) l.fn.runner.next) (g.K.Sink.held l.fn.sink) (activity l.runner.row (g.R.Random.drawn l.random) l.runner.next) (g.K.Sink.held l.sink);
  rest : l.feed.rest ≡ l.fn.feed.rest;
  later : g.K.Sink.faults l.fn.sink ≤ g.K.Sink.faults l.sink;
  few : l.runner.next.count + length l.feed.ready < 2 ^ 64;
  ready : g.D.Service.is_ready l.self.service.now l.runner.row;
}

abbrev pub decreases-loop-packet : goal.decreases-loop-packet
decreases-loop-packet g l = length l.feed.ready
