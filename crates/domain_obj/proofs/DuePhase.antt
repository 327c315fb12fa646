-- A due phase from its first turn to its end.
use Rattle.std.proofs.Common.{◌≡◌, ◌≢◌, inl, inr, ℕ, ◌+◌, ◌++◌, List, [], ◌∷◌, Bool, Option, None, Some, refl, sym, ap, ◌∙◌, subst}
use Rattle.virt_types.specs.Below.types_base.declared.caller.Front.{Front}
use Rattle.history_spec.specs.Chapter.{tagged}
use Rattle.domain_spec.specs.Types.{Answer, Ask, Phase, Transition, Who}
use Rattle.domain_spec.specs.Types.job
use Rattle.domain_spec.specs.declared.mark.Mark.{Mark}
use Rattle.domain_spec.specs.declared.mark.Mark.TheVariants as mark
use Rattle.domain_spec.specs.declared.open.OpenJob.{OpenJob}
use Rattle.domain_spec.specs.declared.open.OpenOperation.{OpenOperation}
use Rattle.domain_spec.specs.declared.step.Outcome.{Outcome}
use Rattle.domain_spec.specs.Cell.{OpenCall}
use Rattle.domain_obj.specs.Asking.{IsAsked, IsBetween}
use Rattle.domain_obj.specs.Finishing.{IsClosed, IsPhased, IsStillAway}
use Rattle.domain_obj.specs.InTurn.{DomainPass}
use Rattle.domain_obj.specs.Placing.{IsPlaced}
use Rattle.domain_obj.specs.Running.{Goes, IsSpent}
use Rattle.domain_core.specs.declared.next.Next.{Next}
use Rattle.domain_obj.proofs.Going.{goes_nowhere, goes_on, some_call}
use Rattle.domain_core.specs.Celled.{CellShare}
use Rattle.domain_obj.specs.Phases.{HasFinishedPhase, HasRunPhase, IsInPhase}
use Rattle.domain_obj.specs.Phasing.{IsDueFor, IsPhaseAway, IsPhaseDone, IsUnchanged, PhaseDone, led, marks_of, phase_let_in, phase_mark}
use Rattle.domain_obj.specs.declared.operating.phases.OnePhase.{OnePhase}
use Rattle.domain_obj.specs.declared.operating.phases.OnePhase.TheVariants as one
use Rattle.domain_obj.proofs.Calling.{heard_all, none_said, some_chapter}
use Rattle.domain_core.specs.OfTurns.{led_to}
use Rattle.domain_core.specs.OfTurns.{IsDue}
use Rattle.domain_core.specs.OfShares.{AsideStays}
use Rattle.domain_core.specs.OfShares.{told}

-- what holds before a turn of the phase: nothing changed for the pass so far
pub record Awaits (before now : DomainPass) : Type 0 where
  pub turns : ℕ
  pub goes : Goes turns [] before now
  pub share : now.share ≡ before.share

pub awaits_first : (pass : DomainPass) → Awaits pass pass
awaits_first pass = record { turns = 0; goes = goes_nowhere pass; share = refl }

awaits_on : (before now after : DomainPass) → Awaits before now → IsUnchanged now after → Awaits before after
awaits_on before now after k h = record { turns = k.turns + 1; goes = goes_on k.turns 1 [] [] before now after k.goes h.goes; share = h.share ∙ k.share }

pub awaits_again : (before now after rested : DomainPass) → Awaits before now → IsUnchanged now after → rested ≡ after → Awaits before rested
awaits_again before now after rested k h same = subst (λ (p : DomainPass). Awaits before p) (sym same) (awaits_on before now after k h)

-- it is due

pub closed_as : (a b : DomainPass) → b.share ≡ a.share → IsClosed a → IsClosed b
closed_as a b same closed = record {
  call = ap (λ (s : CellShare). s.kept.call) same ∙ closed.call;
  monitor = ap (λ (s : CellShare). s.monitor) same ∙ closed.monitor;
  chapter = ap (λ (s : CellShare). s.chapter) same ∙ closed.chapter;
}

pub due_still : (who : Who) (o : OpenOperation) (before now : DomainPass) → IsDueFor who o before → Awaits before now → IsDueFor who o now
due_still who o before now due k = record {
  closed = closed_as before now k.share due.closed;
  waits = ap (λ (s : CellShare). s.kept.waits) k.share ∙ due.waits;
  operation = ap (λ (s : CellShare). s.kept.operation) k.share ∙ due.operation;
  due = subst (λ (n : ℕ). IsDue (Some o) n who) (sym k.goes.went.same.number) due.due;
}

some_is : (x : Option OpenOperation) (o : OpenOperation) → x ≡ Some o → x ≢ None
some_is x o e = λ f. cc

pub between_phases : (who : Who) (o : OpenOperation) (pass : DomainPass) → IsDueFor who o pass → IsBetween pass
between_phases who o pass due = record { no_call = due.closed.call; operation = some_is pass.share.kept.operation o due.operation }

-- it is done

done_later : (who : Who) (o : OpenOperation) (n : ℕ) (p : PhaseDone) (before now after : DomainPass) (said : Next) (place : Front) (k : Awaits before now) → IsPhaseDone who o n p now after said place → IsPhaseDone who o (k.turns + n) p before after said place
done_later who o n p before now after said place k h =
    let number : now.number ≡ before.number = k.goes.went.same.number in
    record {
      due = h.due;
      goes =
          subst (λ (m : ℕ). Goes (k.turns + n) (marks_of m who o.call p) before after) number
          (goes_on k.turns n [] (marks_of now.number who o.call p) before now after k.goes h.goes);
      leads = h.leads;
      share = h.share ∙ ap (λ (s : CellShare). led p.next o s) k.share;
      placed = subst (λ (m : ℕ). IsPlaced place p.chapter (phase_mark m who p) after) number h.placed;
    }

pub phase_at_once : (who : Who) (o : OpenOperation) (before now after : DomainPass) (report report_now : List (Ask × Answer)) (said : Next) (place : Front) → Awaits before now → report_now ≡ report
    → (p : PhaseDone) × IsPhaseDone who o 1 p now after said place × (told p.asks p.answers ≡ []) → HasRunPhase who o before after report report_now (one.Phased said place)
phase_at_once who o before now after report report_now said place k same (p, h, none) =
    (k.turns + 1, p, done_later who o 1 p before now after said place k h, none_said report report_now (told p.asks p.answers) same none)

-- it asked until it was done

pub in_phase : (who : Who) (o : OpenOperation) (before after : DomainPass) (x : Ask) (sent : Bool) → IsPhaseAway who o before after x sent → IsInPhase after
in_phase who o before after x sent h = record { call = h.call; is_open = h.is_open; nested = ap (λ (j : OpenJob). j.job) h.job }

same_operation : (a b : OpenOperation) → Some a ≡ Some b → a ≡ b
same_operation a b e = cc

phase_is : (n m : ℕ) (j k : OpenJob) (who : Who) (phase : Phase) (asks : List Ask) (answers : List Answer) (next : Outcome) (events : List Transition) → n ≡ m → j ≡ k → k.who ≡ who
    → mark.Phase n j.who phase asks answers next events ≡ mark.Phase m who phase asks answers next events
phase_is n m j k who phase asks answers next events e f g = cc

led_share : (next : Outcome) (o : OpenOperation) (s t : CellShare) → t.kept.waits ≡ s.kept.waits → t.kept.call ≡ s.kept.call → t.kept.operation ≡ led_to next (Some o) → t.kept.registrations ≡ s.kept.registrations → t.kept.ears ≡ s.kept.ears
    → t.monitor ≡ s.monitor → t.chapter ≡ s.chapter → t ≡ led next o s
led_share next o s t a b c d e f g = λ i. record { kept = record { waits = a i; call = b i; operation = c i; registrations = d i; ears = e i }; monitor = f i; chapter = g i }

led_back : (next : Outcome) (o : OpenOperation) (now mid after : DomainPass) → IsClosed now → IsClosed after → AsideStays now.share.kept mid.share.kept → AsideStays mid.share.kept after.share.kept → after.share.kept.operation ≡ led_to next (Some o)
    → after.share ≡ led next o now.share
led_back next o now mid after was closed first then operation =
    led_share next o now.share after.share (then.waits ∙ first.waits) (closed.call ∙ sym was.call) operation (then.registrations ∙ first.registrations) (then.ears ∙ first.ears) (closed.monitor ∙ sym was.monitor) (closed.chapter ∙ sym was.chapter)

-- the phase, as it is done
abbrev phase_of : (who : Who) (o : OpenOperation) (now mid after : DomainPass) (x : Ask) (sent : Bool) (more : List (Ask × Answer)) (said : Next) (place : Front) → IsPhaseAway who o now mid x sent → IsPhased mid after more said place → PhaseDone
phase_of who o now mid after x sent more said place h g = record { chapter = h.chapter; boot = h.boot; phase = g.phase; asks = g.asks; answers = g.answers; next = g.next; events = g.events }

done_in_turns : (who : Who) (o : OpenOperation) (now mid after : DomainPass) (x : Ask) (sent : Bool) (more : List (Ask × Answer)) (said : Next) (place : Front) → IsClosed now → (h : IsPhaseAway who o now mid x sent) → (g : IsPhased mid after more said place)
    → IsPhaseDone who o (1 + g.by.turns) (phase_of who o now mid after x sent more said place h g) now after said place
done_in_turns who o now mid after x sent more said place closed h g =
    let by = g.by in
    let same : g.call ≡ h.call = some_call g.call h.call (sym by.was_open ∙ h.is_open) in
    let in_one : by.chapter ≡ h.chapter = some_chapter by.chapter h.chapter (sym by.in_chapter ∙ h.in_chapter) in
    let was : g.call.job ≡ phase_let_in now.number who o h.boot = ap (λ (c : OpenCall). c.job) same ∙ h.job in
    let operation : g.operation ≡ o = same_operation g.operation o (sym g.is_open ∙ h.operation) in
    let m : Mark ℕ = mark.Phase now.number who g.phase g.asks g.answers g.next g.events in
    let is : mark.Phase mid.number g.call.job.who g.phase g.asks g.answers g.next g.events ≡ m =
    phase_is mid.number now.number g.call.job (phase_let_in now.number who o h.boot) who g.phase g.asks g.answers g.next g.events h.goes.went.same.number was refl in
    let last : Goes by.turns (tagged h.chapter (m ∷ [])) mid after =
    subst (λ (c : ℕ). Goes by.turns (tagged c (m ∷ [])) mid after) in_one (subst (λ (k : Mark ℕ). Goes by.turns (tagged by.chapter (k ∷ [])) mid after) is by.goes) in
    record {
      due = sym (ap (λ (q : OpenOperation). q.outcome) operation) ∙ g.due;
      goes = goes_on 1 by.turns (tagged h.chapter (mark.Admit now.number who job.Nested o.call h.boot ∷ [])) (tagged h.chapter (m ∷ [])) now mid after h.goes last;
      leads = g.leads;
      share = led_back g.next o now mid after closed by.closed h.aside by.aside (g.operation_is ∙ ap (λ (q : OpenOperation). led_to g.next (Some q)) operation);
      placed = subst (λ (c : ℕ). IsPlaced place c m after) in_one (subst (λ (k : Mark ℕ). IsPlaced place by.chapter k after) is by.placed);
    }

told_by_then : (call was : OpenCall) (asks : List Ask) (answers : List Answer) (more : List (Ask × Answer)) → call ≡ was → told was.asks was.answers ≡ [] → told asks answers ≡ told call.asks call.answers ++ more → told asks answers ≡ more
told_by_then call was asks answers more same none heard = heard_all (told call.asks call.answers) (told asks answers) more (ap (λ (c : OpenCall). told c.asks c.answers) same ∙ none) heard

phase_then : (who : Who) (o : OpenOperation) (before now mid after : DomainPass) (report report_now : List (Ask × Answer)) (x : Ask) (sent : Bool) (said : Next) (place : Front) → IsDueFor who o before → Awaits before now → IsPhaseAway who o now mid x sent
    → (more : List (Ask × Answer)) × (report_now ≡ report ++ more) × IsPhased mid after more said place → HasRunPhase who o before after report report_now (one.Phased said place)
phase_then who o before now mid after report report_now x sent said place due k h (more, reported, g) =
    let p : PhaseDone = phase_of who o now mid after x sent more said place h g in
    let done : IsPhaseDone who o (1 + g.by.turns) p now after said place = done_in_turns who o now mid after x sent more said place (due_still who o before now due k).closed h g in
    let same : g.call ≡ h.call = some_call g.call h.call (sym g.by.was_open ∙ h.is_open) in (
      k.turns + (1 + g.by.turns),
      p,
      done_later who o (1 + g.by.turns) p before now after said place k done,
      reported ∙ ap (λ (l : List (Ask × Answer)). report ++ l) (sym (told_by_then g.call h.call g.asks g.answers more same h.none_told g.by.heard)),
    )

-- no ticket was left

lost_away : (who : Who) (o : OpenOperation) (before now mid after : DomainPass) (report report_now : List (Ask × Answer)) (x : Ask) (sent : Bool) → Awaits before now → IsPhaseAway who o now mid x sent
    → (more : List (Ask × Answer)) × (asked : Ask) × (a : Answer) × (last : DomainPass) × IsStillAway mid last more × IsAsked last asked × (report_now ≡ report ++ (more ++ told (asked ∷ []) (a ∷ []))) × IsSpent last after
    → HasRunPhase who o before after report report_now one.Spent
lost_away who o before now mid after report report_now x sent k h (more, asked, a, last, still, is_asked, reported, spent) =
    let number : now.number ≡ before.number = k.goes.went.same.number in
    let same : still.was ≡ h.call = some_call still.was h.call (sym still.was_open ∙ h.is_open) in
    let both : Goes (1 + still.turns) (tagged h.chapter (mark.Admit now.number who job.Nested o.call h.boot ∷ [])) now last =
    goes_on 1 still.turns (tagged h.chapter (mark.Admit now.number who job.Nested o.call h.boot ∷ [])) [] now mid last h.goes still.goes in
    let heard : told still.call.asks still.call.answers ≡ more = told_by_then still.was h.call still.call.asks still.call.answers more same h.none_told still.heard in
    record {
      turns = k.turns + (1 + still.turns);
      marks = tagged h.chapter (mark.Admit before.number who job.Nested o.call h.boot ∷ []);
      asked = told still.call.asks still.call.answers ++ told (asked ∷ []) (a ∷ []);
      last = last;
      goes =
          subst (λ (n : ℕ). Goes (k.turns + (1 + still.turns)) (tagged h.chapter (mark.Admit n who job.Nested o.call h.boot ∷ [])) before last) number
          (goes_on k.turns (1 + still.turns) [] (tagged h.chapter (mark.Admit now.number who job.Nested o.call h.boot ∷ [])) before now last k.goes both);
      lost = inr
          (record {
            chapter = h.chapter;
            boot = h.boot;
            marks_are = refl;
            call = still.call;
            is_open = still.is_open;
            job = still.job ∙ ap (λ (c : OpenCall). c.job) same ∙ h.job ∙ ap (λ (n : ℕ). phase_let_in n who o h.boot) number;
            ask = asked;
            answer = a;
            asks = is_asked;
            asked_are = refl;
          });
      still_open = still.operation ∙ h.operation;
      reported = reported ∙ ap (λ (l : List (Ask × Answer)). report ++ (l ++ told (asked ∷ []) (a ∷ []))) (sym heard);
      spent = spent;
    }

pub lost_between : (who : Who) (o : OpenOperation) (before now after : DomainPass) (report report_now : List (Ask × Answer)) → IsDueFor who o before → Awaits before now → report_now ≡ report → IsSpent now after
    → HasRunPhase who o before after report report_now one.Spent
lost_between who o before now after report report_now due k same spent =
    let still : IsDueFor who o now = due_still who o before now due k in
    record {
      turns = k.turns;
      marks = [];
      asked = [];
      last = now;
      goes = k.goes;
      lost = inl (refl, refl, still.closed.call);
      still_open = still.operation;
      reported = none_said report report_now [] same refl;
      spent = spent;
    }

-- as its calls show it

pub phase_ended : (who : Who) (o : OpenOperation) (before now mid after : DomainPass) (report report_now later : List (Ask × Answer)) (x : Ask) (sent : Bool) (r : OnePhase) → IsDueFor who o before → Awaits before now → report_now ≡ report
    → IsPhaseAway who o now mid x sent → HasFinishedPhase mid after report_now later r → HasRunPhase who o before after report later r
phase_ended who o before now mid after report report_now later x sent (one.Phased said place) due k same h (more, reported, g) =
    phase_then who o before now mid after report later x sent said place due k h (more, reported ∙ ap (λ (l : List (Ask × Answer)). l ++ more) same, g)
phase_ended who o before now mid after report report_now later x sent one.Spent due k same h (more, asked, a, last, still, is_asked, reported, spent) =
    lost_away who o before now mid after report later x sent k h
    (more, asked, a, last, still, is_asked, reported ∙ ap (λ (l : List (Ask × Answer)). l ++ (more ++ told (asked ∷ []) (a ∷ []))) same, spent)
