use Rattle.std.proofs.Common.{List, [], ap, subst, sym, ◌∙◌}
use Rattle.virt_types.specs.declared.value.Value.{Value}
use Rattle.virsh.specs.Calls.{Asked, next_of}
use Rattle.virsh.proofs.Answering.{asked_none, stops}
use Rattle.virsh.proofs.InTurn.{asked_more}
use Rattle.virsh.proofs.calls.ask_all.Goals as goal

pub calls-init : goal.calls-init
calls-init g c = record {
  answered = subst (λ (v : List Value). Asked g.S.Source.left g.S.Source.faults g.K.Sink.held g.K.Sink.faults c.args.job.now c.args.xml.now [] c.args.client.now v c.args.client.now) (sym c.new-values.ensures)
      (asked_none g.S.Source.left g.S.Source.faults g.K.Sink.held g.K.Sink.faults c.args.job.now c.args.xml.now c.args.client.now);
  on = c.requires.sound;
}

pub returns-in-Err-ask-clause-err : goal.returns-in-Err-ask-clause-err
returns-in-Err-ask-clause-err g c = stops g.S.Source.left g.S.Source.faults g.K.Sink.held g.K.Sink.faults c.args.job.now c.args.xml.now c.args.client.now c.calls.client c.ask.new.client c.calls.values c.in-Ok-Some.request c.in-Err-ask.stop
    c.calls.invariant.answered (ap (λ (v : List Value). next_of c.args.job.now c.args.xml.now v) (sym c.as_slice.ensures) ∙ (sym c.in-Ok-Some.ensures.request ∙ c.in-Ok-Some.field-0-is)) c.in-Err-ask.ensures.err

pub calls-preserved : goal.calls-preserved
calls-preserved g c = record {
  answered = subst (λ (v : List Value). Asked g.S.Source.left g.S.Source.faults g.K.Sink.held g.K.Sink.faults c.args.job.now c.args.xml.now [] c.args.client.now v c.ask.new.client) (sym c.in-Ok-push.ensures.ok)
      (asked_more g.S.Source.left g.S.Source.faults g.K.Sink.held g.K.Sink.faults c.args.job.now c.args.xml.now [] c.args.client.now c.calls.client c.ask.new.client c.calls.values c.in-Ok-Some.request c.in-Ok.value
      c.calls.invariant.answered (ap (λ (v : List Value). next_of c.args.job.now c.args.xml.now v) (sym c.as_slice.ensures) ∙ (sym c.in-Ok-Some.ensures.request ∙ c.in-Ok-Some.field-0-is)) c.in-Ok.ensures.ok);
  on = c.in-Ok.ensures.on;
}
