use Rattle.std.proofs.Common.{ℕ, List, ap, inl, subst, sym, ◌∙◌}
use Rattle.virt_types.specs.declared.value.Value.{Value}
use Rattle.virsh.specs.Listening.{heard_of}
use Rattle.virsh.specs.Printing.{IsCutOff, IsPut}
use Rattle.virsh.proofs.Put.{out_again}
use Rattle.virsh.proofs.Telling.{cut_first, has_text, no_text, nothing_more, told_events, told_text}
use Rattle.virsh.proofs.connect.print_all.Goals as goal

pub returns-in-Ok-None-clause-told : goal.returns-in-Ok-None-clause-told
returns-in-Ok-None-clause-told g c = absurd (no_text c.args.job.now c.args.values.now c.as_slice.result.now c.as_slice.ensures (rw c.in-Ok-None.field-0-is at c.in-Ok-None.ensures) c.requires.printable)

pub returns-in-Err-clause-told : goal.returns-in-Err-clause-told
returns-in-Err-clause-told g c = nothing_more g.D.S.Source.left g.D.S.Source.faults g.D.K.Sink.held g.D.K.Sink.faults g.D.O.Sink.held g.D.O.Sink.faults (g.D.Dial.given c.args.dial.now).out

pub returns-in-Err-print-clause-told : goal.returns-in-Err-print-clause-told
returns-in-Err-print-clause-told g c = inl (cut_first g.D.S.Source.left g.D.S.Source.faults g.D.K.Sink.held g.D.K.Sink.faults g.D.O.Sink.held g.D.O.Sink.faults c.args.job.now c.args.values.now c.args.client.now (g.D.Dial.given c.args.dial.now).out (g.D.Dial.given c.print.new.dial).out c.in-Ok-Some.text
    (has_text c.args.job.now c.args.values.now c.as_slice.result.now c.in-Ok-Some.text c.as_slice.ensures (rw c.in-Ok-Some.field-0-is at c.in-Ok-Some.ensures))
    (subst (λ (t : List ℕ). IsCutOff g.D.O.Sink.held g.D.O.Sink.faults t (g.D.Dial.given c.args.dial.now).out (g.D.Dial.given c.print.new.dial).out) c.as_bytes.ensures c.in-Err-print.ensures.put))

pub returns-in-Some-clause-told : goal.returns-in-Some-clause-told
returns-in-Some-clause-told g c = told_events g.D.S.Source.left g.D.S.Source.faults g.D.K.Sink.held g.D.K.Sink.faults g.D.O.Sink.held g.D.O.Sink.faults c.args.job.now c.args.values.now c.args.client.now c.listen.new.client (g.D.Dial.given c.args.dial.now).out (g.D.Dial.given c.print.new.dial).out (g.D.Dial.given c.listen.new.dial).out c.in-Ok-Some.text c.in-Some.domain.now c.in-Some.count c.listen.result
    (sym (c.in-Some.ensures ∙ ap (λ (vs : List Value). heard_of c.args.job.now.command vs) c.as_slice-2.ensures))
    (has_text c.args.job.now c.args.values.now c.as_slice.result.now c.in-Ok-Some.text c.as_slice.ensures (rw c.in-Ok-Some.field-0-is at c.in-Ok-Some.ensures))
    (subst (λ (t : List ℕ). IsPut g.D.O.Sink.held g.D.O.Sink.faults t (g.D.Dial.given c.args.dial.now).out (g.D.Dial.given c.print.new.dial).out) c.as_bytes.ensures c.in-Ok.ensures.put) c.listen.ensures.told

pub returns-in-Some-clause-rest : goal.returns-in-Some-clause-rest
returns-in-Some-clause-rest g c = out_again (g.D.Dial.given c.args.dial.now) (g.D.Dial.given c.print.new.dial) (g.D.Dial.given c.listen.new.dial) c.print.ensures.rest c.listen.ensures.rest

pub returns-in-None-clause-told : goal.returns-in-None-clause-told
returns-in-None-clause-told g c = told_text g.D.S.Source.left g.D.S.Source.faults g.D.K.Sink.held g.D.K.Sink.faults g.D.O.Sink.held g.D.O.Sink.faults c.args.job.now c.args.values.now c.args.client.now (g.D.Dial.given c.args.dial.now).out (g.D.Dial.given c.print.new.dial).out c.in-Ok-Some.text
    (sym (c.in-None.ensures ∙ ap (λ (vs : List Value). heard_of c.args.job.now.command vs) c.as_slice-2.ensures))
    (has_text c.args.job.now c.args.values.now c.as_slice.result.now c.in-Ok-Some.text c.as_slice.ensures (rw c.in-Ok-Some.field-0-is at c.in-Ok-Some.ensures))
    (subst (λ (t : List ℕ). IsPut g.D.O.Sink.held g.D.O.Sink.faults t (g.D.Dial.given c.args.dial.now).out (g.D.Dial.given c.print.new.dial).out) c.as_bytes.ensures c.in-Ok.ensures.put)
