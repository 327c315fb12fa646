use Rattle.std.proofs.Common.{sym, ◌∙◌}
use Rattle.domain_obj.specs.Replies.{called_at}
use Rattle.domain_obj.proofs.RunningCalls.{at_then, cell_then, ready_then}
use Rattle.domain_obj.proofs.object.DomainObj.run.Goals as goal

pub hear-pass-requires-clause-own : goal.hear-pass-requires-clause-own
hear-pass-requires-clause-own g c =
    let a = c.args in
    cell_then a.who a.call.now a.pass c.run_call-pass.result.0 (g.D.Desk.report a.desk.now) (g.D.Desk.report c.run_call-pass.new.desk) c.run_call-pass.result.1 c.run_call-pass.ensures ∙ c.requires.own ∙ sym c.self.view_is

pub hear-pass-requires-clause-ready : goal.hear-pass-requires-clause-ready
hear-pass-requires-clause-ready g c =
    let a = c.args in
    ready_then a.who a.call.now a.pass c.run_call-pass.result.0 (g.D.Desk.report a.desk.now) (g.D.Desk.report c.run_call-pass.new.desk) c.run_call-pass.result.1 c.run_call-pass.ensures c.requires.ready

pub returns : goal.returns
returns g c = record {
  last = c.run_call-pass.result.0;
  called = c.run_call-pass.result.1;
  hushed = c.hear-pass.result.1;
  calls = c.run_call-pass.ensures;
  hears = c.hear-pass.ensures.heard;
  leaves = c.hear-pass.ensures.leaves;
  tells = c.told_of_call-reply.ensures.reply;
  is_at = at_then g.G.E.Ears.ends g.G.E.Ears.faults g.G.E.Ears.unheard c.run_call-pass.result.0 c.hear-pass.result.0 c.hear-pass.result.1 (called_at c.run_call-pass.result.1) c.told_of_call-reply.result.1 c.seen_by.result c.place_at.result c.hear-pass.ensures.heard
      c.told_of_call-reply.ensures.place c.seen_by.ensures c.place_at.ensures.place c.place_at.ensures.seen;
}
