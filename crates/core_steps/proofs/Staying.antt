-- An operation that is open stays open in the turn of an answer, and none begins.
use Rattle.std.proofs.Common.{◌≡◌, ℕ, List, [], ◌∷◌, ◌++◌, map, Bool, true, false, Option, None, Some, refl, sym, ap, ◌∙◌, subst}
use Rattle.domain_spec.specs.Types.{Answer, Ask, EndReason, Reply}
use Rattle.domain_spec.specs.Types.answer
use Rattle.domain_spec.specs.declared.mark.Mark.{Mark}
use Rattle.domain_spec.specs.declared.mark.Mark.TheVariants as mark
use Rattle.domain_spec.specs.declared.open.OpenJob.{OpenJob}
use Rattle.domain_spec.specs.declared.open.OpenOperation.{OpenOperation}
use Rattle.domain_spec.specs.declared.standing.Registration.{Registration}
use Rattle.domain_spec.specs.declared.standing.Standing.{Standing}
use Rattle.domain_spec.specs.declared.step.Outcome.{Outcome}
use Rattle.domain_spec.specs.Cell.{HeldEvent}
use Rattle.domain_spec.specs.Exit.{event_transitions, exit_transitions}
use Rattle.domain_spec.specs.Fold.{after, after_phase, lost_boot, standing}
use Rattle.domain_spec.specs.Phase.{phase_of}
use Rattle.domain_spec.specs.Reading.{is_live}
use Rattle.domain_spec.specs.Registrations.{with_pending}
use Rattle.domain_spec.specs.Sequential.{seq}
use Rattle.domain_spec.proofs.LawProofs.{standing-append}
use Rattle.core_log.specs.Below.core_plan.Along.{Asked, answered}
use Rattle.core_log.specs.Below.core_plan.Starving.{starved}
use Rattle.core_log.specs.Below.core_plan.PhaseCopying.{with_answer}
use Rattle.core_log.specs.Below.core_flight.Ledger.{answered_in, closing, loss, phase_closing, phased_by}
use Rattle.core_log.specs.Below.core_flight.Told.{told_last}
use Rattle.core_log.specs.Below.core_flight.declared.ledger.Back.{Back}
use Rattle.core_log.specs.Below.core_flight.declared.ledger.Back.TheVariants as back
use Rattle.core_log.specs.Below.core_flight.declared.phase_out.Step.{Step}
use Rattle.event_queue.specs.Listening.{registrations}
use Rattle.event_queue.specs.Telling.{cuts_due}
use Rattle.core_log.specs.Record.{IsAsking, IsDoneWith, IsPhasedWith, Recorded, Tells, cuts_after, force_of, with_cuts}
use Rattle.core_log.proofs.Held.{in_more}
use Rattle.core_log.proofs.Joining.{force_after}
use Rattle.core_steps.specs.Answering.{Answers}
use Rattle.core_steps.specs.Applying.{Applies, AppliesOne}
use Rattle.core_steps.specs.Ending.{EndsCarried, EndsFirst, EndsLive, boot_of}
use Rattle.core_steps.specs.Rooms.{ends_needed}
use Rattle.core_steps.proofs.Applied.{cuts_stay}
use Rattle.core_steps.proofs.LookedAt.{done_at}

-- the end that an open operation needs
abbrev ends_in : Standing → ℕ
ends_in s = ends_needed s.operation

cuts_keep : (s : Standing) (marks cuts : List (Mark ℕ)) (rs : List Registration) → cuts ≡ cuts_due rs → ends_in (standing s (marks ++ cuts)) ≡ ends_in (standing s marks)
cuts_keep s marks cuts rs e =
    ap ends_in (standing-append s marks cuts)
    ∙ ap (λ (ms : List (Mark ℕ)). ends_in (standing (standing s marks) ms)) e
    ∙ ap ends_needed (cuts_stay (standing s marks) rs).operation

-- marks with their cuts change it as the marks alone do
told_keeps : (old new : Recorded) (marks : List (Mark ℕ)) → Tells old new marks → ends_in (force_of new) ≡ ends_in (standing (force_of old) marks)
told_keeps old new marks h =
    ap ends_in (force_after old new (with_cuts old.listeners marks) h.marked)
    ∙ cuts_keep (force_of old) marks (cuts_after (registrations old.listeners) (told_last marks)) (map (with_pending (told_last marks)) (registrations old.listeners)) refl

live_keeps : (b : Bool) (boot : ℕ) (why : EndReason) (old new : Recorded) → EndsLive b boot why old new → ends_in (force_of new) ≡ ends_in (force_of old)
live_keeps true boot why old new h = told_keeps old new (mark.Exit boot why (exit_transitions why) ∷ []) h.0
live_keeps false boot why old new h = ap (λ (r : Recorded). ends_in (force_of r)) h

carried_keeps : (boot : Option ℕ) (why : EndReason) (old new : Recorded) → EndsCarried boot why old new → ends_in (force_of new) ≡ ends_in (force_of old)
carried_keeps None why old new h = ap (λ (r : Recorded). ends_in (force_of r)) h
carried_keeps (Some boot) why old new h = live_keeps (is_live (force_of old).state boot) boot why old new h

first_keeps : (x : Answer) (old new : Recorded) → EndsFirst x old new → ends_in (force_of new) ≡ ends_in (force_of old)
first_keeps (answer.Ended why) old new h = carried_keeps (boot_of (force_of old).job) why old new h
first_keeps other old new h = ap (λ (r : Recorded). ends_in (force_of r)) h

loss_keeps : (s : Standing) (lost : Option ℕ) → ends_in (standing s (loss lost)) ≡ ends_in s
loss_keeps s None = refl
loss_keeps s (Some boot) = refl

closing_keeps : (s : Standing) (j : Option OpenJob) (n : ℕ) (a : Asked) → ends_in (standing s (closing s j n a)) ≡ ends_in s
closing_keeps s None n a = refl
closing_keeps s (Some j) n a = loss_keeps _ (lost_boot (seq s.state j.call j.boot a.answers).state j.boot a.answers)

done_keeps : (old new : Recorded) (n : ℕ) (a : Asked) (r : Reply) → IsDoneWith old [] n a new r → ends_in (force_of new) ≡ ends_in (force_of old)
done_keeps old new n a r h =
    let at = done_at old new [] n a r h in
    told_keeps old new (closing (force_of old) (force_of old).job n a) at.told ∙ closing_keeps (force_of old) (force_of old).job n a

phase_after : (s : Standing) (p : Option OpenOperation) (o : OpenOperation) (answers : List Answer) (next : Outcome) → p ≡ Some o → ends_in (after_phase s p answers next) ≡ 1
phase_after s None o answers next e = cc
phase_after s (Some q) o answers next e = refl

phase_keeps : (s : Standing) (o : Option OpenOperation) (n : ℕ) (a : Asked) → s.operation ≡ o → ends_in (standing s (phase_closing s o n a)) ≡ ends_in s
phase_keeps s None n a is = refl
phase_keeps s (Some o) n a is =
    loss_keeps (after s (phased_by s o n a)) (lost_boot (phase_of s.state o a.answers).state o.boot a.answers)
    ∙ phase_after s s.operation o a.answers (phase_of s.state o a.answers).outcome is
    ∙ sym (ap ends_needed is)

phased_keeps : (old new : Recorded) (n : ℕ) (a : Asked) (st : Step) → IsPhasedWith old [] n a new st → ends_in (force_of new) ≡ ends_in (force_of old)
phased_keeps old new n a st h =
    let tells : Tells old new (phase_closing (force_of old) (force_of old).operation n a) =
    subst (λ (s : Standing). Tells old new (phase_closing s s.operation n a)) (in_more old.history []) h.told.0 in
    told_keeps old new (phase_closing (force_of old) (force_of old).operation n a) tells ∙ phase_keeps (force_of old) (force_of old).operation n a refl

asking_keeps : (old new : Recorded) (a : Asked) (x : Ask) → IsAsking old [] a new x → ends_in (force_of new) ≡ ends_in (force_of old)
asking_keeps old new a x h = ap ends_in (force_after old new [] h.marked)

one_keeps : (b : Bool) (h : HeldEvent) (old new : Recorded) → AppliesOne b h old new → ends_in (force_of new) ≡ ends_in (force_of old)
one_keeps true h old new one = told_keeps old new (mark.Event h.boot h.event (event_transitions (force_of old).state h.event) ∷ []) one.0
one_keeps false h old new one = ap (λ (r : Recorded). ends_in (force_of r)) one

applies_keep : (hs : List HeldEvent) (old new : Recorded) → Applies hs old new → ends_in (force_of new) ≡ ends_in (force_of old)
applies_keep [] old new h = ap (λ (r : Recorded). ends_in (force_of r)) h
applies_keep (x ∷ hs) old new h = applies_keep hs h.0 new h.2 ∙ one_keeps (is_live (force_of old).state x.boot) x old h.0 h.1

-- an event, and a boot's end, are told while the operation stays as it is
pub event_stays : (b : Bool) (h : HeldEvent) (old new : Recorded) → AppliesOne b h old new → ends_needed (force_of new).operation ≡ ends_needed (force_of old).operation
event_stays b h old new one = one_keeps b h old new one

pub exit_stays : (b : Bool) (boot : ℕ) (why : EndReason) (old new : Recorded) → EndsLive b boot why old new → ends_needed (force_of new).operation ≡ ends_needed (force_of old).operation
exit_stays b boot why old new h = live_keeps b boot why old new h

pub answer_stays : (n : ℕ) (course : Option Asked) (x : Answer) (held : List HeldEvent) (old new : Recorded) (left : Back) → Answers n course x held old new left
    → ends_needed (force_of new).operation ≡ ends_needed (force_of old).operation
answer_stays n None x held old new left h = absurd h
answer_stays n (Some a) x held old new (back.Done r) h =
    applies_keep held h.3 new h.6 ∙ done_keeps h.0 h.3 n (starved h.2 (answered a x)) r h.4 ∙ first_keeps x old h.0 h.1
answer_stays n (Some a) x held old new (back.Phased st) h =
    applies_keep held h.3 new h.6 ∙ phased_keeps h.0 h.3 n (starved h.2 (with_answer a x)) st h.4 ∙ first_keeps x old h.0 h.1
answer_stays n (Some a) x held old new (back.Away y) h =
    asking_keeps h.0 new (starved h.2 (answered_in (force_of h.0).job a x)) y h.3 ∙ first_keeps x old h.0 h.1

-- once it is done none is away

one_course : (b : Bool) (h : HeldEvent) (old new : Recorded) → AppliesOne b h old new → new.course ≡ old.course
one_course true h old new one = one.1
one_course false h old new one = ap (λ (r : Recorded). r.course) one

pub applies_course : (hs : List HeldEvent) (old new : Recorded) → Applies hs old new → new.course ≡ old.course
applies_course [] old new h = ap (λ (r : Recorded). r.course) h
applies_course (x ∷ hs) old new h = applies_course hs h.0 new h.2 ∙ one_course (is_live (force_of old).state x.boot) x old h.0 h.1
