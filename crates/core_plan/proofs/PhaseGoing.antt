-- What a phase comes to that is let in, or that was away and is answered.
use Rattle.std.proofs.Common.{◌≡◌, ℕ, zero, suc, List, [], ◌∷◌, ◌++◌, length, Bool, true, false, Option, None, Some, if◌then◌else◌, refl, sym, ap, ◌∙◌, subst}
use Rattle.domain_spec.specs.Types.{Answer, Ask, Phase, State}
use Rattle.domain_spec.specs.Types.answer
use Rattle.domain_spec.specs.declared.open.OpenJob.{OpenJob}
use Rattle.domain_spec.specs.declared.open.OpenOperation.{OpenOperation}
use Rattle.domain_spec.specs.declared.planned.PlannedAsk.{PlannedAsk}
use Rattle.domain_spec.specs.declared.standing.Standing.{Standing}
use Rattle.domain_spec.specs.declared.step.Outcome.TheVariants as outcome
use Rattle.domain_spec.specs.Asks.{asks_left}
use Rattle.domain_spec.specs.Cell.{planned_at}
use Rattle.domain_spec.specs.Phase.{phase_still_asked, plan_in}
use Rattle.domain_spec.specs.Reading.{carries_ended, live_boot}
use Rattle.core_rules.specs.declared.next.Next.{Next}
use Rattle.core_rules.specs.declared.next.Next.TheVariants as next
use Rattle.core_rules.specs.Next.{is_ask, next_of}
use Rattle.core_plan.specs.Along.{Asked, answered}
use Rattle.core_plan.specs.Starving.{AreAsks, next_in, starved}
use Rattle.core_plan.specs.AwayLaws.{made}
use Rattle.core_plan.proofs.Finishing.{next_ask}
use Rattle.core_plan.specs.PhaseCopying.{with_answer}
use Rattle.core_plan.specs.PhaseAway.{IsPhaseAway}
use Rattle.core_plan.specs.PhaseGoing.{FirstPhaseIsAway, FirstPhaseIsDone, IsPhaseAnswered, IsPhaseNow, IsPhasedThen, PhaseStaysAway, first_phase, phase_planned}
use Rattle.core_plan.specs.PhaseLaws.{IsPhasedBy}
use Rattle.core_plan.proofs.Keeping.{is_there, phase_begins, phase_goes_on}
use Rattle.core_plan.proofs.Phasing.{is_phased_at_once, is_phased_live}
use Rattle.core_plan.proofs.Writing.{kept_by}

-- an ask for which there is no memory brings no copy
starve_is : (s : State) (o : OpenOperation) (j : OpenJob) (a : Asked) → IsPhaseAway s o j a → with_answer a answer.NoMemory ≡ answered a answer.NoMemory
starve_is s o j a h =
    ap (λ (plan : List PlannedAsk). record { plan = plan; answers = a.answers ++ answer.NoMemory ∷ [] }) (kept_by (planned_at s j) o.call a.plan a.answers h.plan)

starve_one : (s : State) (o : OpenOperation) (j : OpenJob) (a : Asked) → IsPhaseAway s o j a → is_ask (next_in (answered a answer.NoMemory)) ≡ true → IsPhaseAway s o j (answered a answer.NoMemory)
starve_one s o j a h waits =
    let is : with_answer a answer.NoMemory ≡ answered a answer.NoMemory = starve_is s o j a h in
    let x : (y : Ask) × (next_in (with_answer a answer.NoMemory) ≡ next.Ask y) = next_ask (next_in (with_answer a answer.NoMemory)) (ap (λ (b : Asked). is_ask (next_in b)) is ∙ waits) in
    subst (λ (b : Asked). IsPhaseAway s o j b) is (phase_goes_on s o j a answer.NoMemory x.0 h refl x.1)

-- the first of some asks that find no memory is one
first_asks : (count : ℕ) (a : Asked) → AreAsks count a → is_ask (next_in (starved count a)) ≡ true → is_ask (next_in a) ≡ true
first_asks zero a asks waits = waits
first_asks (suc n) a asks waits = asks.0

pub starve_away : (count : ℕ) (s : State) (o : OpenOperation) (j : OpenJob) (a : Asked) → IsPhaseAway s o j a → AreAsks count a → is_ask (next_in (starved count a)) ≡ true
    → IsPhaseAway s o j (starved count a)
starve_away zero s o j a h asks waits = h
starve_away (suc n) s o j a h asks waits =
    starve_away n s o j (answered a answer.NoMemory) (starve_one s o j a h (first_asks n (answered a answer.NoMemory) asks.1 waits)) asks.1 waits

-- nothing is left to be asked, after at least one that found no memory
starve_more : (n : ℕ) (s : Standing) (o : OpenOperation) (j : OpenJob) (p : Phase) (a : Asked) → IsPhaseAway s.state o j a → o.outcome ≡ outcome.On p → carries_ended s.state o.boot ≡ false
    → AreAsks n (answered a answer.NoMemory) → next_in (starved n (answered a answer.NoMemory)) ≡ next.Finish
    → IsPhasedBy s j o p (made (starved n (answered a answer.NoMemory))) (starved n (answered a answer.NoMemory)).answers
starve_more zero s o j p a h due live asks through =
    let is : with_answer a answer.NoMemory ≡ answered a answer.NoMemory = starve_is s.state o j a h in
    subst (λ (b : Asked). IsPhasedBy s j o p (made b) b.answers) is
    (is_phased_live s j o a answer.NoMemory p h due live (ap (λ (b : Asked). next_in b) is ∙ through) refl)
starve_more (suc n) s o j p a h due live asks through =
    starve_more n s o j p (answered a answer.NoMemory) (starve_one s.state o j a h asks.0) due live asks.1 through

-- a phase that was let in just now

started : (ended : Bool) (plan : List PlannedAsk) → is_ask (next_of (asks_left (if ended then [] else plan) [])) ≡ true
    → (x : Ask) × (next_of (if ended then [] else asks_left plan []) ≡ next.Ask x) × ((if ended then [] else plan) ≡ plan) × (ended ≡ false)
started true plan e = cc
started false plan e = let x : (y : Ask) × (next_of (asks_left plan []) ≡ next.Ask y) = next_ask (next_of (asks_left plan [])) e in (x.0, x.1, refl, refl)

first_begins : (s : State) (o : OpenOperation) (j : OpenJob) (p : Phase) → IsPhaseNow s o j p → is_ask (next_in (first_phase s o)) ≡ true
    → IsPhaseAway s o j (first_phase s o) × (carries_ended s o.boot ≡ false)
first_begins s o j p h waits =
    let x = started (carries_ended s o.boot) (plan_in s o.call []) waits in (
      subst (λ (plan : List PlannedAsk). IsPhaseAway s o j (record { plan = plan; answers = [] })) (sym x.2)
          (phase_begins s o j p x.0 h.guest h.nested h.due h.carried h.none_before x.1),
      x.3,
    )

pub first_phase_is_away : FirstPhaseIsAway
first_phase_is_away s o j p count h asks waits =
    starve_away count s o j (first_phase s o) (first_begins s o j p h (first_asks count (first_phase s o) asks waits)).0 asks waits

none_next : (ended : Bool) (plan : List PlannedAsk) → next_of (asks_left (if ended then [] else plan) []) ≡ next.Finish → next_of (if ended then [] else asks_left plan []) ≡ next.Finish
none_next true plan e = refl
none_next false plan e = e

none_made : (plan : List PlannedAsk) → made (record { plan = plan; answers = [] }) ≡ []
none_made plan = refl

pub first_phase_is_done : FirstPhaseIsDone
first_phase_is_done s o j p zero h asks through =
    is_phased_at_once s j o p h.nested h.due h.none_before (none_next (carries_ended s.state o.boot) (plan_in s.state o.call []) through)
first_phase_is_done s o j p (suc n) h asks through =
    let b = first_begins s.state o j p h asks.0 in starve_more n s o j p (first_phase s.state o) b.0 h.due b.1 asks.1 through

-- a phase that was away

answered_away : (s : State) (o : OpenOperation) (j : OpenJob) (a : Asked) (x : Answer) → IsPhaseAnswered s o j a x → is_ask (next_in (with_answer a x)) ≡ true → IsPhaseAway s o j (with_answer a x)
answered_away s o j a x h waits =
    let y : (y : Ask) × (next_in (with_answer a x) ≡ next.Ask y) = next_ask (next_in (with_answer a x)) waits in
    phase_goes_on s o j a x y.0 h.away h.not_ended y.1

pub phase_stays_away : PhaseStaysAway
phase_stays_away s o j a x count h asks waits =
    starve_away count s o j (with_answer a x) (answered_away s o j a x h (first_asks count (with_answer a x) asks waits)) asks waits

pub is_phased_then : IsPhasedThen
is_phased_then s o j a x p zero h due asks through = is_phased_live s j o a x p h.away due h.live through h.not_ended
is_phased_then s o j a x p (suc n) h due asks through =
    starve_more n s o j p (with_answer a x) (answered_away s.state o j a x h asks.0) due h.live asks.1 through
