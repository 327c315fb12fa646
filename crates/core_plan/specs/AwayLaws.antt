-- Laws of calls that are away.
use Rattle.std.specs.Prelude.{◌≡◌, ℕ, List, [], ◌∷◌, ◌++◌, true, false, Option, None, Some}
use Rattle.domain_spec.specs.Types.{Answer, Ask, Call, EndReason, State}
use Rattle.domain_spec.specs.declared.open.OpenJob.{OpenJob}
use Rattle.domain_spec.specs.declared.open.OpenOperation.{OpenOperation}
use Rattle.domain_spec.specs.declared.standing.Standing.{Standing}
use Rattle.domain_spec.specs.Asks.{asks_left, asks_made, is_ended_answer, plain}
use Rattle.domain_spec.specs.Call.{begins, takes_up}
use Rattle.domain_spec.specs.Exit.{exit_state}
use Rattle.domain_spec.specs.Fold.{job_at_exit}
use Rattle.domain_spec.specs.Lawful.{IsDoneAs}
use Rattle.domain_spec.specs.Phase.{without_operation}
use Rattle.domain_spec.specs.Reading.{is_live}
use Rattle.domain_spec.specs.Sequential.{meets_ended, still_asked}
use Rattle.domain_spec.specs.TakeUp.{step_at}
use Rattle.core_rules.specs.Cores.{core_of_call}
use Rattle.core_rules.specs.declared.cores.Core.TheVariants as core
use Rattle.core_rules.specs.declared.next.Next.TheVariants as next
use Rattle.core_rules.specs.Next.{at_most, next_if, next_of}
use Rattle.core_plan.specs.Along.{Asked, answered}
use Rattle.core_mark_laws.specs.Tidy.{IsTidy, planned}
use Rattle.core_plan.specs.Away.{IsAway, IsUnsent}

-- the asks that were made with one more answer are those of the answers so far
abbrev pub made : Asked → List Ask
made a = asks_made a.plan a.answers

-- after the end of a boot a call is away as before; where the boot was its own it keeps the state of before
abbrev pub ExitKeeps : Type 0
ExitKeeps =
    (s : State) (o : Option OpenOperation) (j : OpenJob) (a : Asked) (boot : ℕ) (why : EndReason)
    → IsTidy s → IsAway s o j a → is_live s boot ≡ true
    → (k : OpenJob) × (job_at_exit s boot (Some j) ≡ Some k) × IsAway (exit_state s why) o k a

-- the end of an operation changes nothing of it
abbrev pub EndKeeps : Type 0
EndKeeps = (s : State) (o : Option OpenOperation) (j : OpenJob) (a : Asked) → IsAway s o j a → IsAway (without_operation s) None j a

-- a call that neither begins an operation nor takes one up, and asks nothing, is done as the driver does it
abbrev pub IsDoneAtOnce : Type 0
IsDoneAtOnce =
    (s : Standing) (c : Call) (boot : Option ℕ)
    → begins c ≡ None → takes_up c ≡ None → next_of (still_asked s.state c boot []) ≡ next.Finish
    → IsDoneAs s None c boot [] [] (step_at s c boot []).reply (step_at s c boot []).transitions

-- a call that was away, after one more answer with which nothing is left to be asked
abbrev pub IsDoneLive : Type 0
IsDoneLive =
    (s : Standing) (j : OpenJob) (a : Asked) (x : Answer)
    → IsAway s.state s.operation j a → meets_ended s.state j.call j.boot ≡ false
    → next_of (asks_left a.plan (answered a x).answers) ≡ next.Finish → is_ended_answer x ≡ false → IsUnsent s.operation j (answered a x)
    → IsDoneAs s j.before j.call j.boot (made (answered a x)) (answered a x).answers (step_at s j.call j.boot (answered a x).answers).reply (step_at s j.call j.boot (answered a x).answers).transitions

-- a call that was away and whose boot has ended, after one more answer
abbrev pub IsDoneEnded : Type 0
IsDoneEnded =
    (s : Standing) (j : OpenJob) (a : Asked) (x : Answer)
    → IsAway s.state s.operation j a → meets_ended s.state j.call j.boot ≡ true → IsUnsent s.operation j (answered a x)
    → IsDoneAs s j.before j.call j.boot (made (answered a x)) (answered a x).answers (step_at s j.call j.boot (answered a x).answers).reply (step_at s j.call j.boot (answered a x).answers).transitions

-- the plan of a call that is on no device
abbrev pub OneIsPlanned : Type 0
OneIsPlanned =
    (s : State) (c : Call) (boot : Option ℕ) (x : Option Ask) → (core_of_call c ≡ core.Hotplug → ⊥)
    → next_of (still_asked s c boot []) ≡ next_if x → planned s c boot ≡ plain (at_most x)
