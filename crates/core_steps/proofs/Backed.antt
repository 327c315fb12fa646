-- A phase that is answered, and done.
use Rattle.std.proofs.Common.{◌≡◌, ℕ, List, [], ◌∷◌, ◌++◌, map, option_map, Bool, true, false, Option, None, Some, refl, sym, ap, ◌∙◌, subst, append_assoc}
use Rattle.domain_spec.specs.Types.{Answer, Ask, Phase, Transition, Who}
use Rattle.domain_spec.specs.declared.core_step.CoreStep.{CoreStep}
use Rattle.domain_spec.specs.declared.core_step.CoreStep.TheVariants as step
use Rattle.domain_spec.specs.declared.mark.Mark.{Mark}
use Rattle.domain_spec.specs.declared.mark.Mark.TheVariants as mark
use Rattle.domain_spec.specs.declared.open.OpenJob.{OpenJob}
use Rattle.domain_spec.specs.declared.open.OpenOperation.{OpenOperation}
use Rattle.domain_spec.specs.declared.standing.Registration.{Registration}
use Rattle.domain_spec.specs.declared.standing.Standing.{Standing}
use Rattle.domain_spec.specs.declared.step.Outcome.{Outcome}
use Rattle.domain_spec.specs.declared.step.PhaseStep.{PhaseStep}
use Rattle.domain_spec.specs.CanTake.{CanTake}
use Rattle.domain_spec.specs.Cell.{Cell, HeldEvent, LentEars, Queue, operation_of}
use Rattle.domain_spec.specs.Exit.{event_transitions}
use Rattle.domain_spec.specs.Fold.{after, standing, with_outcome}
use Rattle.domain_spec.specs.Kept.{due_events, events_in}
use Rattle.domain_spec.specs.Lawful.{IsPhased}
use Rattle.domain_spec.specs.Open.{OperationGoesOn}
use Rattle.domain_spec.specs.Phase.{phase_of}
use Rattle.domain_spec.specs.Reading.{is_live}
use Rattle.domain_spec.specs.Registrations.{with_pending}
use Rattle.domain_spec.specs.Steps.{AnswersBy}
use Rattle.domain_spec.specs.Turns.{AllHaveRoom, AnswersAfter, GoOn, IsOwn}
use Rattle.domain_spec.proofs.LawProofs.{standing-append}
use Rattle.core_log.specs.Below.core_plan.Along.{Asked}
use Rattle.core_log.specs.Below.core_plan.Starving.{starved}
use Rattle.core_log.specs.Below.core_plan.AwayLaws.{made}
use Rattle.core_log.specs.Below.core_plan.PhaseCopying.{with_answer}
use Rattle.core_log.specs.Below.core_chapter.Closing.{due_of}
use Rattle.core_log.proofs.Below.core_flight.Operated.{phase_is_left}
use Rattle.core_log.specs.Below.core_flight.Ledger.{IsPhaseLawful, phase_closing, standing_in}
use Rattle.core_log.specs.Below.core_flight.Told.{told_last}
use Rattle.core_log.specs.Below.core_flight.declared.ledger.Back.TheVariants as back
use Rattle.core_log.specs.Below.core_flight.declared.phase_out.Step.{Step}
use Rattle.event_queue.specs.Listening.{registrations}
use Rattle.event_queue.specs.Telling.{cuts_due}
use Rattle.core_log.specs.Record.{IsPhasedWith, Recorded, cuts_after, force_of, with_cuts}
use Rattle.core_log.proofs.Cuts.{legal_ending}
use Rattle.core_log.proofs.Joining.{force_after}
use Rattle.core_steps.specs.Answering.{Answers}
use Rattle.core_steps.specs.Applying.{Applies, AppliesOne}
use Rattle.core_steps.specs.Phased.{HasLedTo, HasPhased, led_to}
use Rattle.core_steps.specs.TurnLaws.{PhaseAnswersAreTurns}
use Rattle.core_steps.specs.Turning.{IsSettled, Takes, answers_of, cell_of, turning}
use Rattle.core_steps.proofs.Answered.{BootEnded, answers_by, ended_first}
use Rattle.core_steps.proofs.Applied.{AreApplied, all_applied, cuts_stay, filter_same, room_after}
use Rattle.core_steps.proofs.Going.{Goes, goes_all, goes_more}
use Rattle.core_steps.proofs.Marks.{cuts_go_on, events_append, may_begin, no_event_cut}
use Rattle.core_steps.proofs.Waiting.{none_open}
use Rattle.core_steps.specs.Phasing.{IsDue}
use Rattle.core_steps.proofs.Phased.{Led, PhasedAt, led_by, no_event_phase, phased_at, share_led}
use Rattle.core_steps.proofs.Taken.{held_of, turned}

-- marks by which the open phase is done

goes_phased : (c : Cell) (t : CoreStep ℕ) (old new : Recorded) (n : ℕ) (a : Asked) (st : Step) → PhasedAt old new [] (force_of old) n a st → IsOwn t n → AnswersBy c t a.answers
    → Goes c t old new (with_cuts old.listeners (phase_closing (force_of old) (force_of old).operation n a))
goes_phased c t old new n a st at own answers =
    let s : Standing = force_of old in
    let done : List (Mark ℕ) = phase_closing s s.operation n a in
    let cuts : List (Mark ℕ) = cuts_after (registrations old.listeners) (told_last done) in
    record {
      marked = at.told.marked;
      goes = λ more go.
          subst (λ (ms : List (Mark ℕ)). GoOn c t s ms) (sym (append_assoc done cuts more))
          (phase_is_left c t s n a (cuts ++ more) own answers at.lawful
          (cuts_go_on c t (standing s done) (map (with_pending (told_last done)) (registrations old.listeners)) more (legal_ending s done cuts at.told.marked.legal)
          (subst (λ (x : Standing). GoOn c t x more) (standing-append s done cuts) go)));
    }

-- held events leave the operation as it is

event_keeps : (b : Bool) (h : HeldEvent) (old new : Recorded) → AppliesOne b h old new → (force_of new).operation ≡ (force_of old).operation
event_keeps true h old new one =
    let events = event_transitions (force_of old).state h.event in
    let m : Mark ℕ = mark.Event h.boot h.event events in
    ap (λ (s : Standing). s.operation) (force_after old new (with_cuts old.listeners (m ∷ [])) one.0.marked)
    ∙ (cuts_stay (after (force_of old) m) (map (with_pending (told_last (m ∷ []))) (registrations old.listeners))).operation
event_keeps false h old new one = ap (λ (r : Recorded). (force_of r).operation) one

applies_keep : (hs : List HeldEvent) (old new : Recorded) → Applies hs old new → (force_of new).operation ≡ (force_of old).operation
applies_keep [] old new h = ap (λ (r : Recorded). (force_of r).operation) h
applies_keep (x ∷ hs) old new h = applies_keep hs h.0 new h.2 ∙ event_keeps (is_live (force_of old).state x.boot) x old h.0 h.1

-- the phase that is done is the due one of the operation of this number

due_for : (s : Standing) (j : Option OpenJob) (o : OpenOperation) (n : ℕ) (who : Who) (p : Phase) (asks : List Ask) (answers : List Answer) (next : Outcome) (events : List Transition)
    → IsPhased s j (Some o) n who p asks answers next events → IsDue (Some o) n o.who
due_for s None o n who p asks answers next events h = absurd h
due_for s (Some j) o n who p asks answers next events h = (h.nested.numbered, refl, subst OperationGoesOn (sym h.due) tt)

due_by : (s : Standing) (q : Option OpenOperation) (n : ℕ) (a : Asked) → s.operation ≡ q → IsPhaseLawful s q n a → (who : Who) × IsDue q n who
due_by s None n a is lawful = absurd lawful
due_by s (Some o) n a is lawful =
    let left : PhaseStep = phase_of s.state o a.answers in (
      o.who,
      due_for s s.job o n o.who (due_of o.outcome) (made a) a.answers left.outcome left.transitions
          (subst (λ (q : Option OpenOperation). IsPhased s s.job q n o.who (due_of o.outcome) (made a) a.answers left.outcome left.transitions) is lawful.in_order),
    )

-- the phase is done, and the held events apply

back_phased : (old mid done new : Recorded) (q : Queue) (held : List HeldEvent) (ears : Option LentEars) (n : ℕ) (a : Asked) (x : Answer) (count : ℕ) (st : Step)
    → CanTake (cell_of old q held ears) (step.Back n x) → old.course ≡ Some a → BootEnded (cell_of old q held ears) (step.Back n x) old mid
    → IsPhasedWith mid [] n (starved count (with_answer a x)) done st → AreApplied (cell_of old q held ears) (step.Back n x) held done new → (force_of new).operation ≡ (force_of done).operation → IsSettled new
    → Takes (turning old q held ears) (turning new q [] ears) (step.Back n x) (HasPhased n st (turning old q held ears) (turning new q [] ears))
unfolding standing_in
back_phased old mid done new q held ears n a x count st can away ended is applied kept settled =
    let c : Cell = cell_of old q held ears in
    let t : CoreStep ℕ = step.Back n x in
    let b : Asked = starved count (with_answer a x) in
    let s : Standing = force_of mid in
    let at : PhasedAt mid done [] s n b st = phased_at mid done [] n b st is in
    let closing : List (Mark ℕ) = phase_closing s s.operation n b in
    let due_in : List Registration = map (with_pending (told_last closing)) (registrations mid.listeners) in
    let closed : List (Mark ℕ) = with_cuts mid.listeners closing in
    let left : List (Mark ℕ) = ended.left ++ (closed ++ applied.left) in
    let goes : Goes c t old new left =
    goes_more c t old mid new ended.left (closed ++ applied.left) ended.goes
    (goes_more c t mid done new closed applied.left (goes_phased c t mid done n b st at refl (answers_by old q held ears n a (with_answer a x) x count away refl)) applied.goes) in
    let none : (force_of new).job ≡ None = applied.open_stays.0 in
    let due : events_in left ≡ due_events (force_of new) None held =
    events_append ended.left (closed ++ applied.left)
    ∙ ap (λ (hs : List HeldEvent). hs ++ events_in (closed ++ applied.left)) ended.events
    ∙ events_append closed applied.left
    ∙ ap (λ (hs : List HeldEvent). hs ++ events_in applied.left)
    (events_append closing (cuts_due due_in) ∙ ap (λ (hs : List HeldEvent). hs ++ events_in (cuts_due due_in)) (no_event_phase s s.operation n b) ∙ no_event_cut due_in)
    ∙ applied.events
    ∙ filter_same (λ h. is_live (force_of done).state h.boot) (λ h. is_live (force_of new).state h.boot) held (λ h. sym (applied.live h.boot)) in
    let led : Led s s.operation n b st = led_by s s.operation n b st refl at.lawful at.leads in
    let here : (force_of done).operation ≡ option_map (with_outcome led.next) s.operation =
    ap (λ (y : Standing). y.operation) (force_after mid done closed at.told.marked)
    ∙ ap (λ (y : Standing). y.operation) (standing-append s closing (cuts_due due_in))
    ∙ (cuts_stay (standing s closing) due_in).operation
    ∙ led.operation in
    let is_due = due_by s s.operation n b refl at.lawful in (
      left,
      turned t old new q q held [] ears left tt can (may_begin c t left (goes_all c t old new left goes settled.lost)) goes.marked
          (subst (λ (j : Option OpenJob). events_in left ≡ due_events (force_of new) j held) (sym none) due)
          (subst (λ (j : Option OpenJob). [] ≡ held_of j held) (sym none) refl)
          (subst (λ (j : Option OpenJob). AnswersAfter c t left j (answers_of new.course)) (sym none) (ap answers_of (applied.open_stays.2 ∙ is.none_away)))
          refl settled,
      (
        led.next,
        ended.led_past n led.next (closed ++ applied.left)
            (subst (λ (ms : List (Mark ℕ)). HasLedTo n led.next ms) (sym (append_assoc closing (cuts_due due_in) applied.left)) (led.led (cuts_due due_in ++ applied.left))),
        led.step_is,
        subst (λ (y : Option OpenOperation). operation_of (force_of new).operation n ≡ led_to led.next (operation_of y n)) ended.operation
            (share_led s.operation (force_of new).operation n is_due.0 led.next is_due.1 (kept ∙ here)),
      ),
    )

goes_by : (course : Option Asked) (old new : Recorded) (q : Queue) (held : List HeldEvent) (ears : Option LentEars) (n : ℕ) (x : Answer) (st : Step)
    → CanTake (cell_of old q held ears) (step.Back n x) → old.course ≡ course → AllHaveRoom (registrations old.listeners) → IsSettled old → IsSettled new → Answers n course x held old new (back.Phased st)
    → Takes (turning old q held ears) (turning new q [] ears) (step.Back n x) (HasPhased n st (turning old q held ears) (turning new q [] ears))
goes_by None old new q held ears n x st can away room was settled h = absurd h
goes_by (Some a) old new q held ears n x st can away room was settled h =
    let c = cell_of old q held ears in
    let ended = ended_first c n x old h.0 room was.lost h.1 in
    let done = h.3 in
    let applied =
    all_applied c (step.Back n x) held done new (λ k y e. (k, e)) (room_after h.0 done _ h.4.told.0.marked) (none_open done h.4.none_away h.5.waits) h.5.lost h.6 in
    back_phased old h.0 done new q held ears n a x h.2 st can away ended h.4 applied (applies_keep held done new h.6) settled

pub phases_go_back : PhaseAnswersAreTurns
phases_go_back old new q held ears n x st can room was settled h = goes_by old.course old new q held ears n x st can refl room was settled h
