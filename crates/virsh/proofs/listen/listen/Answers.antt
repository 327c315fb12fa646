use Rattle.std.proofs.Common.{◌≡◌, ◌+◌, ◌-◌, ℕ, List, ap, arith, inl, refl, subst, ◌∙◌}
use Rattle.virt_types.specs.declared.value.Note.{Note}
use Rattle.virsh.specs.Listening.{wanted}
use Rattle.virsh.specs.Printing.{IsCutOff, IsPut}
use Rattle.virsh.proofs.Listens.{HasHeard, heard_all, heard_cut, heard_next, not_heard, nothing_heard}
use Rattle.virsh.proofs.Put.{out_again}
use Rattle.virsh.proofs.listen.listen.Goals as goal

pub loop-told-init : goal.loop-told-init
loop-told-init g c =
    let all : c.args.count ≡ c.args.count - 0 = omega arith in
    record {
      heard = subst (λ (k : ℕ). HasHeard g.D.S.Source.left g.D.S.Source.faults g.D.O.Sink.held g.D.O.Sink.faults c.args.domain.now c.args.count k c.args.client.now c.args.client.now (g.D.Dial.given c.args.dial.now).out (g.D.Dial.given c.args.dial.now).out) all
          (nothing_heard g.D.S.Source.left g.D.S.Source.faults g.D.O.Sink.held g.D.O.Sink.faults c.args.domain.now c.args.count c.args.client.now (g.D.Dial.given c.args.dial.now).out);
      on = c.requires.sound;
      rest = refl;
    }

pub returns-in-Err-clause-told : goal.returns-in-Err-clause-told
returns-in-Err-clause-told g c = not_heard g.D.S.Source.left g.D.S.Source.faults g.D.O.Sink.held g.D.O.Sink.faults c.args.domain.now c.args.count (c.args.count - c.loop-told._told) c.args.client.now c.loop-told.client c.next_note.new.client (g.D.Dial.given c.args.dial.now).out (g.D.Dial.given c.loop-told.dial).out c.in-Err.stop (omega arith) c.loop-told.invariant.heard c.in-Err.ensures.err

pub returns-in-Err-print-clause-told : goal.returns-in-Err-print-clause-told
returns-in-Err-print-clause-told g c = inl (heard_cut g.D.S.Source.left g.D.S.Source.faults g.D.O.Sink.held g.D.O.Sink.faults c.args.domain.now c.args.count (c.args.count - c.loop-told._told) c.args.client.now c.loop-told.client c.next_note.new.client (g.D.Dial.given c.args.dial.now).out (g.D.Dial.given c.loop-told.dial).out (g.D.Dial.given c.print.new.dial).out c.in-Ok.note c.loop-told.invariant.heard c.in-Ok.ensures.ok
    (subst (λ (t : List ℕ). IsCutOff g.D.O.Sink.held g.D.O.Sink.faults t (g.D.Dial.given c.loop-told.dial).out (g.D.Dial.given c.print.new.dial).out) (c.as_bytes.ensures ∙ c.in-Ok-note_line.ensures) c.in-Err-print.ensures.put))

pub returns-in-Lost-clause-told : goal.returns-in-Lost-clause-told
returns-in-Lost-clause-told g c =
    let over : wanted (c.args.count - c.loop-told._told) c.in-Ok.note ≡ 0 = ap (λ (n : Note). wanted (c.args.count - c.loop-told._told) n) c.in-Lost.is in
    heard_all g.D.S.Source.left g.D.S.Source.faults g.D.O.Sink.held g.D.O.Sink.faults c.args.domain.now c.args.count c.args.client.now c.next_note.new.client (g.D.Dial.given c.args.dial.now).out (g.D.Dial.given c.print.new.dial).out
    (subst (λ (k : ℕ). HasHeard g.D.S.Source.left g.D.S.Source.faults g.D.O.Sink.held g.D.O.Sink.faults c.args.domain.now c.args.count k c.args.client.now c.next_note.new.client (g.D.Dial.given c.args.dial.now).out (g.D.Dial.given c.print.new.dial).out) over
    (heard_next g.D.S.Source.left g.D.S.Source.faults g.D.O.Sink.held g.D.O.Sink.faults c.args.domain.now c.args.count (c.args.count - c.loop-told._told) c.args.client.now c.loop-told.client c.next_note.new.client (g.D.Dial.given c.args.dial.now).out (g.D.Dial.given c.loop-told.dial).out (g.D.Dial.given c.print.new.dial).out c.in-Ok.note c.loop-told.invariant.heard c.in-Ok.ensures.ok (subst (λ (t : List ℕ). IsPut g.D.O.Sink.held g.D.O.Sink.faults t (g.D.Dial.given c.loop-told.dial).out (g.D.Dial.given c.print.new.dial).out) (c.as_bytes.ensures ∙ c.in-Ok-note_line.ensures) c.in-Ok-print.ensures.put)))

pub loop-told-preserved : goal.loop-told-preserved
loop-told-preserved g c =
    let fewer : c.args.count - c.loop-told._told - 1 ≡ c.args.count - (c.loop-told._told + 1) = omega arith in
    let one : wanted (c.args.count - c.loop-told._told) c.in-Ok.note ≡ c.args.count - c.loop-told._told - 1 = ap (λ (n : Note). wanted (c.args.count - c.loop-told._told) n) c.in-Event.is in
    record {
      heard = subst (λ (k : ℕ). HasHeard g.D.S.Source.left g.D.S.Source.faults g.D.O.Sink.held g.D.O.Sink.faults c.args.domain.now c.args.count k c.args.client.now c.next_note.new.client (g.D.Dial.given c.args.dial.now).out (g.D.Dial.given c.print.new.dial).out) (one ∙ fewer)
          (heard_next g.D.S.Source.left g.D.S.Source.faults g.D.O.Sink.held g.D.O.Sink.faults c.args.domain.now c.args.count (c.args.count - c.loop-told._told) c.args.client.now c.loop-told.client c.next_note.new.client (g.D.Dial.given c.args.dial.now).out (g.D.Dial.given c.loop-told.dial).out (g.D.Dial.given c.print.new.dial).out c.in-Ok.note c.loop-told.invariant.heard c.in-Ok.ensures.ok (subst (λ (t : List ℕ). IsPut g.D.O.Sink.held g.D.O.Sink.faults t (g.D.Dial.given c.loop-told.dial).out (g.D.Dial.given c.print.new.dial).out) (c.as_bytes.ensures ∙ c.in-Ok-note_line.ensures) c.in-Ok-print.ensures.put));
      on = c.in-Ok.ensures.on;
      rest = out_again (g.D.Dial.given c.args.dial.now) (g.D.Dial.given c.loop-told.dial) (g.D.Dial.given c.print.new.dial) c.loop-told.invariant.rest c.print.ensures.rest;
    }
