-- What a phase comes to that is let in, or that was away and is answered: some asks find no memory, and
-- then it is away, or done.
use Rattle.std.specs.Prelude.{◌≡◌, ℕ, List, [], true, false, None, Option, Some, if◌then◌else◌}
use Rattle.domain_spec.specs.Types.{Answer, Phase, State}
use Rattle.domain_spec.specs.declared.open.OpenJob.{OpenJob}
use Rattle.domain_spec.specs.declared.open.OpenOperation.{OpenOperation}
use Rattle.domain_spec.specs.declared.planned.PlannedAsk.{PlannedAsk}
use Rattle.domain_spec.specs.declared.standing.Standing.{Standing}
use Rattle.domain_spec.specs.declared.step.Outcome.TheVariants as outcome
use Rattle.domain_spec.specs.Asks.{is_ended_answer}
use Rattle.domain_spec.specs.Lawful.{IsNested}
use Rattle.domain_spec.specs.Phase.{plan_in}
use Rattle.domain_spec.specs.Reading.{carries_ended, live_boot}
use Rattle.core_rules.specs.declared.next.Next.TheVariants as next
use Rattle.core_rules.specs.Next.{is_ask}
use Rattle.core_plan.specs.Along.{Asked}
use Rattle.core_plan.specs.Starving.{AreAsks, next_in, starved}
use Rattle.core_plan.specs.AwayLaws.{made}
use Rattle.core_mark_laws.specs.Guests.{HasOwnGuest}
use Rattle.core_plan.specs.PhaseCopying.{with_answer}
use Rattle.core_plan.specs.PhaseAway.{IsPhaseAway}
use Rattle.core_plan.specs.PhaseLaws.{IsPhasedBy}

-- what the due phase plans to ask, before any answer
abbrev pub phase_planned : State → OpenOperation → List PlannedAsk
phase_planned s o = if carries_ended s o.boot then [] else plan_in s o.call []

-- the course of a phase that is let in here
abbrev pub first_phase : State → OpenOperation → Asked
first_phase s o = record { plan = phase_planned s o; answers = [] }

-- a phase that was let in just now, with the live boot
pub record IsPhaseNow (s : State) (o : OpenOperation) (j : OpenJob) (p : Phase) : Type 0 where
  pub guest : HasOwnGuest s (Some o)
  pub nested : IsNested j o j.number o.who
  pub due : o.outcome ≡ outcome.On p
  pub carried : j.boot ≡ live_boot s
  pub none_before : j.before ≡ None

-- it is away where something is left to be asked
abbrev pub FirstPhaseIsAway : Type 0
FirstPhaseIsAway =
    (s : State) (o : OpenOperation) (j : OpenJob) (p : Phase) (count : ℕ) → IsPhaseNow s o j p
    → AreAsks count (first_phase s o) → is_ask (next_in (starved count (first_phase s o))) ≡ true → IsPhaseAway s o j (starved count (first_phase s o))

-- and done where nothing is
abbrev pub FirstPhaseIsDone : Type 0
FirstPhaseIsDone =
    (s : Standing) (o : OpenOperation) (j : OpenJob) (p : Phase) (count : ℕ) → IsPhaseNow s.state o j p
    → AreAsks count (first_phase s.state o) → next_in (starved count (first_phase s.state o)) ≡ next.Finish
    → IsPhasedBy s j o p (made (starved count (first_phase s.state o))) (starved count (first_phase s.state o)).answers

-- an answer that comes while the phase's boot is live, and is none that it has ended
pub record IsPhaseAnswered (s : State) (o : OpenOperation) (j : OpenJob) (a : Asked) (x : Answer) : Type 0 where
  pub away : IsPhaseAway s o j a
  pub live : carries_ended s o.boot ≡ false
  pub not_ended : is_ended_answer x ≡ false

-- after such an answer the phase is away where something is left to be asked
abbrev pub PhaseStaysAway : Type 0
PhaseStaysAway =
    (s : State) (o : OpenOperation) (j : OpenJob) (a : Asked) (x : Answer) (count : ℕ) → IsPhaseAnswered s o j a x
    → AreAsks count (with_answer a x) → is_ask (next_in (starved count (with_answer a x))) ≡ true → IsPhaseAway s o j (starved count (with_answer a x))

-- and done where nothing is
abbrev pub IsPhasedThen : Type 0
IsPhasedThen =
    (s : Standing) (o : OpenOperation) (j : OpenJob) (a : Asked) (x : Answer) (p : Phase) (count : ℕ) → IsPhaseAnswered s.state o j a x
    → o.outcome ≡ outcome.On p → AreAsks count (with_answer a x) → next_in (starved count (with_answer a x)) ≡ next.Finish
    → IsPhasedBy s j o p (made (starved count (with_answer a x))) (starved count (with_answer a x)).answers
