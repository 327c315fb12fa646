-- Laws of phases that are away.
use Rattle.std.specs.Prelude.{◌≡◌, ℕ, List, [], ◌∷◌, true, false, Option, None, Some}
use Rattle.domain_spec.specs.Types.{Answer, Ask, EndReason, Phase, State}
use Rattle.domain_spec.specs.Types.answer
use Rattle.domain_spec.specs.declared.open.OpenJob.{OpenJob}
use Rattle.domain_spec.specs.declared.open.OpenOperation.{OpenOperation}
use Rattle.domain_spec.specs.declared.standing.Standing.{Standing}
use Rattle.domain_spec.specs.declared.step.Outcome.TheVariants as outcome
use Rattle.domain_spec.specs.Asks.{asks_left, asks_made, is_ended_answer}
use Rattle.domain_spec.specs.Exit.{exit_state}
use Rattle.domain_spec.specs.Fold.{job_at_exit}
use Rattle.domain_spec.specs.Lawful.{IsNested, IsPhaseOf}
use Rattle.domain_spec.specs.Phase.{phase_of, phase_still_asked, plan_in}
use Rattle.domain_spec.specs.Reading.{carries_ended, is_live, live_boot}
use Rattle.core_rules.specs.declared.next.Next.TheVariants as next
use Rattle.core_rules.specs.Next.{next_of}
use Rattle.core_plan.specs.Along.{Asked}
use Rattle.core_mark_laws.specs.Guests.{HasOwnGuest}
use Rattle.core_plan.specs.PhaseCopying.{with_answer}
use Rattle.core_plan.specs.PhaseAway.{IsPhaseAway}

-- the phase is done with these asks and answers, as the table of operations has it
abbrev pub IsPhasedBy : Standing → OpenJob → OpenOperation → Phase → List Ask → List Answer → Type 0
IsPhasedBy s j o p asks answers = IsPhaseOf s j o j.number o.who p asks answers (phase_of s.state o answers).outcome (phase_of s.state o answers).transitions

-- a phase that was let in and asks something is away
abbrev pub PhaseBegins : Type 0
PhaseBegins =
    (s : State) (o : OpenOperation) (j : OpenJob) (p : Phase) (x : Ask)
    → HasOwnGuest s (Some o) → IsNested j o j.number o.who → o.outcome ≡ outcome.On p → j.boot ≡ live_boot s → j.before ≡ None
    → next_of (phase_still_asked s o []) ≡ next.Ask x → IsPhaseAway s o j (record { plan = plan_in s o.call []; answers = [] })

-- it is so still after one more answer, where another ask follows
abbrev pub PhaseGoesOn : Type 0
PhaseGoesOn =
    (s : State) (o : OpenOperation) (j : OpenJob) (a : Asked) (x : Answer) (y : Ask)
    → IsPhaseAway s o j a → is_ended_answer x ≡ false → next_of (asks_left (with_answer a x).plan (with_answer a x).answers) ≡ next.Ask y
    → IsPhaseAway s o j (with_answer a x)

-- after the end of a boot it is away as before, and keeps the state of before
abbrev pub PhaseExitKeeps : Type 0
PhaseExitKeeps =
    (s : State) (o : OpenOperation) (j : OpenJob) (a : Asked) (boot : ℕ) (why : EndReason)
    → IsPhaseAway s o j a → is_live s boot ≡ true
    → (k : OpenJob) × (job_at_exit s boot (Some j) ≡ Some k) × IsPhaseAway (exit_state s why) o k a

-- what it plans in the present state, while its boot is live, is what was planned
abbrev pub PhasePlanStays : Type 0
PhasePlanStays =
    (s : State) (o : OpenOperation) (j : OpenJob) (a : Asked)
    → IsPhaseAway s o j a → carries_ended s o.boot ≡ false → a.plan ≡ plan_in s o.call a.answers

-- a phase that asks nothing is done at once
abbrev pub IsPhasedAtOnce : Type 0
IsPhasedAtOnce =
    (s : Standing) (j : OpenJob) (o : OpenOperation) (p : Phase)
    → IsNested j o j.number o.who → o.outcome ≡ outcome.On p → j.before ≡ None → next_of (phase_still_asked s.state o []) ≡ next.Finish
    → IsPhasedBy s j o p [] []

-- a phase that found no memory before its first ask has that one answer
abbrev pub IsPhasedStarved : Type 0
IsPhasedStarved =
    (s : Standing) (j : OpenJob) (o : OpenOperation) (p : Phase)
    → IsNested j o j.number o.who → o.outcome ≡ outcome.On p → IsPhasedBy s j o p [] (answer.NoMemory ∷ [])

-- a phase that was away, after one more answer with which nothing is left to be asked
abbrev pub IsPhasedLive : Type 0
IsPhasedLive =
    (s : Standing) (j : OpenJob) (o : OpenOperation) (a : Asked) (x : Answer) (p : Phase)
    → IsPhaseAway s.state o j a → o.outcome ≡ outcome.On p → carries_ended s.state o.boot ≡ false
    → next_of (asks_left (with_answer a x).plan (with_answer a x).answers) ≡ next.Finish → is_ended_answer x ≡ false
    → IsPhasedBy s j o p (asks_made (with_answer a x).plan (with_answer a x).answers) (with_answer a x).answers

-- a phase that was away and whose boot has ended, after one more answer
abbrev pub IsPhasedEnded : Type 0
IsPhasedEnded =
    (s : Standing) (j : OpenJob) (o : OpenOperation) (a : Asked) (x : Answer) (p : Phase)
    → IsPhaseAway s.state o j a → o.outcome ≡ outcome.On p → carries_ended s.state o.boot ≡ true
    → IsPhasedBy s j o p (asks_made (with_answer a x).plan (with_answer a x).answers) (with_answer a x).answers
