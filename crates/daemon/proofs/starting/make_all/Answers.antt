use Rattle.std.proofs.Common.{arith, ◌∙◌}
use Rattle.service_spec.specs.Activities.{hand}
use Rattle.daemon.proofs.Made.{made_next}
use Rattle.daemon.proofs.starting.make_all.Goals as goal

pub loop-request-preserved : goal.loop-request-preserved
loop-request-preserved g c = record {
  made = made_next g.F.Files.told g.F.Files.faults g.G.Guests.faults g.G.E.Ears.ends g.G.E.Ears.faults g.G.E.Ears.unheard
      c.args.requests.now c.loop-request.request-index c.len.result c.request-item.result c.loop-request.outcomes.items c.push_reserved.new.self.items c.call-then.result.1
      (hand c.args.row (g.R.Random.drawn c.args.random.now)) (hand c.loop-request.row (g.R.Random.drawn c.loop-request.random)) (hand c.call-then.result.0 (g.R.Random.drawn c.call-then.new.random))
      (omega arith) (omega arith) c.request-item.is c.loop-request.invariant.made
      (record {
        called = c.call-then.ensures.called;
        outcome = c.call-then.ensures.outcome;
        now = c.call-then.ensures.now;
        gone = c.call-then.ensures.gone;
        parts = c.call-then.ensures.parts;
      }) c.push_reserved.ensures.items;
  count = omega arith;
  room = omega arith;
  parts = record {
    list = c.call-then.ensures.parts.list ∙ c.loop-request.invariant.parts.list;
    store = c.call-then.ensures.parts.store ∙ c.loop-request.invariant.parts.store;
    domains = c.call-then.ensures.parts.domains ∙ c.loop-request.invariant.parts.domains;
  };
  own = c.call-then.ensures.own;
  ready = c.call-then.ensures.ready;
}
