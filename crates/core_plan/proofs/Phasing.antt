-- Why the Phase of an operation is lawful whose answers are all there.
use Rattle.std.proofs.Common.{◌≡◌, ℕ, inl, inr, List, [], ◌∷◌, ◌++◌, length, Bool, true, false, Option, None, Some, if◌then◌else◌, unwrap_or, refl, sym, ap, ◌∙◌, subst}
use Rattle.std.specs.List.{list_any}
use Rattle.domain_spec.specs.Types.{Answer, Ask, Phase, State}
use Rattle.domain_spec.specs.Types.answer
use Rattle.domain_spec.specs.declared.open.OpenJob.{OpenJob}
use Rattle.domain_spec.specs.declared.open.OpenOperation.{OpenOperation}
use Rattle.domain_spec.specs.declared.planned.PlannedAsk.{PlannedAsk}
use Rattle.domain_spec.specs.declared.standing.Standing.{Standing}
use Rattle.domain_spec.specs.declared.step.Outcome.TheVariants as outcome
use Rattle.domain_spec.specs.Asks.{asks_left, asks_made, is_ended_answer}
use Rattle.domain_spec.specs.Lawful.{EndedFirst, IsNested, IsPhaseMade, WerePlanned, planned_in}
use Rattle.domain_spec.specs.Phase.{phase_asked, phase_of, phase_still_asked, plan_in}
use Rattle.domain_spec.specs.Reading.{carries_ended, live_boot}
use Rattle.core_rules.specs.declared.next.Next.TheVariants as next
use Rattle.core_rules.specs.Next.{next_of}
use Rattle.core_plan.specs.Along.{Asked}
use Rattle.core_plan.proofs.Finishing.{any_more, nothing_next}
use Rattle.core_plan.specs.PhaseCopying.{with_answer}
use Rattle.core_plan.specs.PhaseAway.{IsPhaseAway}
use Rattle.core_plan.specs.PhaseLaws.{IsPhasedAtOnce, IsPhasedBy, IsPhasedEnded, IsPhasedLive, IsPhasedStarved}
use Rattle.core_plan.proofs.Keeping.{is_there, none_ended_yet, one_more, plan_more, true_not_false}

-- a phase is done with what was made of its asks
phased : (s : Standing) (j : OpenJob) (o : OpenOperation) (p : Phase) (asks : List Ask) (answers : List Answer)
    → IsNested j o j.number o.who → o.outcome ≡ outcome.On p → IsPhaseMade s.state j.before o asks answers → EndedFirst (carries_ended s.state o.boot) answers
    → IsPhasedBy s j o p asks answers
phased s j o p asks answers nested due made ended = record {
  nested = nested;
  due = due;
  made = inl made;
  ended_first = ended;
  outcome_is = refl;
  told = refl;
}

-- what a phase asked and has left, where its boot is live, and where it has ended
asked_live : (ended : Bool) (asks : List Ask) → ended ≡ false → asks ≡ (if ended then [] else asks)
asked_live true asks e = cc
asked_live false asks e = refl

none_left : (ended : Bool) (asks : List Ask) → ended ≡ true → (if ended then [] else asks) ≡ []
none_left true asks e = refl
none_left false asks e = cc

made_none : (ended : Bool) (plan : List PlannedAsk) → [] ≡ (if ended then [] else asks_made plan [])
made_none true plan = refl
made_none false plan = refl

planned_none : (ended : Bool) (s : State) (o : OpenOperation) → WerePlanned (planned_in ended s None) (λ at. phase_asked at o []) [] []
planned_none true s o = (refl, refl)
planned_none false s o = (made_none (carries_ended s o.boot) (plan_in s o.call []), refl)

ended_none : (ended : Bool) → EndedFirst ended []
ended_none true = tt
ended_none false = refl

ended_starved : (ended : Bool) → EndedFirst ended (answer.NoMemory ∷ [])
ended_starved true = tt
ended_starved false = refl

pub is_phased_at_once : IsPhasedAtOnce
is_phased_at_once s j o p nested due before through =
    phased s j o p [] [] nested due
    (record {
      planned = subst (λ (y : Option State). WerePlanned (planned_in (carries_ended s.state o.boot) s.state y) (λ at. phase_asked at o []) [] []) (sym before) (planned_none (carries_ended s.state o.boot) s.state o);
      through = nothing_next (phase_still_asked s.state o []) through;
    }) (ended_none (carries_ended s.state o.boot))

pub is_phased_starved : IsPhasedStarved
is_phased_starved s j o p nested due = record {
  nested = nested;
  due = due;
  made = inr (refl, refl);
  ended_first = ended_starved (carries_ended s.state o.boot);
  outcome_is = refl;
  told = refl;
}

-- what was planned in this state was asked there
asked_in : (at : State) (o : OpenOperation) (plan : List PlannedAsk) (answers : List Answer) → plan ≡ plan_in at o.call answers → carries_ended at o.boot ≡ false
    → asks_made plan answers ≡ phase_asked at o answers
asked_in at o plan answers e live = ap (λ (y : List PlannedAsk). asks_made y answers) e ∙ asked_live (carries_ended at o.boot) (asks_made (plan_in at o.call answers) answers) live

pub is_phased_live : IsPhasedLive
is_phased_live s j o a x p h due live through last =
    let b = with_answer a x in
    let plan : b.plan ≡ plan_in s.state o.call b.answers =
    plan_more s.state o a x (h.plan ∙ ap (λ (y : State). plan_in y o.call a.answers) (none_ended_yet s.state o j a h live)) in
    phased s j o p (asks_made b.plan b.answers) b.answers h.nested due
    (record {
      planned =
          subst (λ (e : Bool). WerePlanned (planned_in e s.state j.before) (λ at. phase_asked at o b.answers) (asks_made b.plan b.answers) b.answers) (sym live)
          (asked_in s.state o b.plan b.answers plan live, one_more a.answers a.plan x h.waits h.asked);
      through =
          sym (asked_live (carries_ended s.state o.boot) (asks_left (plan_in s.state o.call b.answers) b.answers) live)
          ∙ ap (λ (y : List PlannedAsk). asks_left y b.answers) (sym plan) ∙ nothing_next (asks_left b.plan b.answers) through;
    })
    (subst (λ (e : Bool). EndedFirst e b.answers) (sym live) (any_more a.answers x h.none_ended last))

-- its boot has ended since: it keeps the state just before
ended_by : (s : Standing) (j : OpenJob) (o : OpenOperation) (a : Asked) (x : Answer) (p : Phase) (before : Option State) → j.before ≡ before
    → IsPhaseAway s.state o j a → o.outcome ≡ outcome.On p → carries_ended s.state o.boot ≡ true
    → IsPhasedBy s j o p (asks_made (with_answer a x).plan (with_answer a x).answers) (with_answer a x).answers
ended_by s j o a x p None is h due ended =
    let at : live_boot s.state ≡ Some h.boot = ap (λ (y : Option State). live_boot (unwrap_or y s.state)) (sym is) ∙ h.was_live in
    absurd (true_not_false (sym ended ∙ is_there s.state o.boot h.boot at h.operated))
ended_by s j o a x p (Some was) is h due ended =
    let b = with_answer a x in
    let live : live_boot was ≡ Some h.boot = ap (λ (y : Option State). live_boot (unwrap_or y s.state)) (sym is) ∙ h.was_live in
    let plan : a.plan ≡ plan_in was o.call a.answers = h.plan ∙ ap (λ (y : Option State). plan_in (unwrap_or y s.state) o.call a.answers) is in
    phased s j o p (asks_made b.plan b.answers) b.answers h.nested due
    (record {
      planned =
          subst (λ (e : Bool). WerePlanned (planned_in e s.state j.before) (λ at. phase_asked at o b.answers) (asks_made b.plan b.answers) b.answers) (sym ended)
          (subst (λ (y : Option State). WerePlanned y (λ at. phase_asked at o b.answers) (asks_made b.plan b.answers) b.answers) (sym is)
          (asked_in was o b.plan b.answers (plan_more was o a x plan) (is_there was o.boot h.boot live h.operated), one_more a.answers a.plan x h.waits h.asked));
      through = none_left (carries_ended s.state o.boot) (asks_left (plan_in s.state o.call b.answers) b.answers) ended;
    })
    (subst (λ (e : Bool). EndedFirst e b.answers) (sym ended) tt)

pub is_phased_ended : IsPhasedEnded
is_phased_ended s j o a x p h due ended = ended_by s j o a x p j.before refl h due ended
