-- What a call comes to that is let in, or that was away and is answered: some asks find no memory, and
-- then it is away, or done.
use Rattle.std.specs.Prelude.{◌≡◌, ℕ, List, [], true, false, Option, None}
use Rattle.domain_spec.specs.Types.{Answer, Ask, Call, State, Who}
use Rattle.domain_spec.specs.declared.open.OpenJob.{OpenJob}
use Rattle.domain_spec.specs.declared.open.OpenOperation.{OpenOperation}
use Rattle.domain_spec.specs.declared.standing.Standing.{Standing}
use Rattle.domain_spec.specs.Asks.{is_ended_answer}
use Rattle.domain_spec.specs.Call.{begins, job_of, takes_up}
use Rattle.domain_spec.specs.Lawful.{IsDoneAs}
use Rattle.domain_spec.specs.Open.{IsCarried}
use Rattle.domain_spec.specs.Sequential.{meets_ended}
use Rattle.domain_spec.specs.TakeUp.{step_at}
use Rattle.core_rules.specs.declared.next.Next.TheVariants as next
use Rattle.core_rules.specs.Next.{is_ask}
use Rattle.core_plan.specs.Along.{Asked, answered}
use Rattle.core_plan.specs.Starving.{AreAsks, next_in, starved}
use Rattle.core_mark_laws.specs.Tidy.{planned}
use Rattle.core_plan.specs.Away.{IsAway, IsUnsent}
use Rattle.core_plan.specs.AwayLaws.{made}

-- the call is done with what this course asked and was answered
abbrev pub IsDoneBy : Standing → Option State → Call → Option ℕ → Asked → Type 0
IsDoneBy s before c boot a = IsDoneAs s before c boot (made a) a.answers (step_at s c boot a.answers).reply (step_at s c boot a.answers).transitions

-- a call that was let in just now
abbrev pub let_in : ℕ → Who → Call → Option ℕ → OpenJob
let_in n who c boot = record { number = n; who = who; job = job_of c; call = c; boot = boot; before = None }

-- what a call plans that is let in here, before any answer
abbrev pub first_course : State → Call → Option ℕ → Asked
first_course s c boot = record { plan = planned s c boot; answers = [] }

-- a call that neither begins an operation nor takes one up, and carries the boot that it may
pub record IsLetIn (s : State) (c : Call) (boot : Option ℕ) : Type 0 where
  pub begins_none : begins c ≡ None
  pub takes_none : takes_up c ≡ None
  pub carried : IsCarried s c boot

-- it is away where something is left to be asked
abbrev pub FirstIsAway : Type 0
FirstIsAway =
    (s : State) (o : Option OpenOperation) (n : ℕ) (who : Who) (c : Call) (boot : Option ℕ) (count : ℕ)
    → IsLetIn s c boot → AreAsks count (first_course s c boot) → is_ask (next_in (starved count (first_course s c boot))) ≡ true
    → IsAway s o (let_in n who c boot) (starved count (first_course s c boot))

-- and done where nothing is
abbrev pub FirstIsDone : Type 0
FirstIsDone =
    (s : Standing) (c : Call) (boot : Option ℕ) (count : ℕ)
    → IsLetIn s.state c boot → AreAsks count (first_course s.state c boot) → next_in (starved count (first_course s.state c boot)) ≡ next.Finish
    → IsDoneBy s None c boot (starved count (first_course s.state c boot))

-- an answer that comes while the call's boot is live, and is none that it has ended
pub record IsAnsweredLive (s : State) (o : Option OpenOperation) (j : OpenJob) (a : Asked) (x : Answer) : Type 0 where
  pub away : IsAway s o j a
  pub live : meets_ended s j.call j.boot ≡ false
  pub not_ended : is_ended_answer x ≡ false
  pub unsent : IsUnsent o j (answered a x)

-- after such an answer the call is away where something is left to be asked
abbrev pub StaysAway : Type 0
StaysAway =
    (s : State) (o : Option OpenOperation) (j : OpenJob) (a : Asked) (x : Answer) (count : ℕ)
    → IsAnsweredLive s o j a x → AreAsks count (answered a x) → is_ask (next_in (starved count (answered a x))) ≡ true
    → IsAway s o j (starved count (answered a x))

-- and done where nothing is
abbrev pub IsDoneThen : Type 0
IsDoneThen =
    (s : Standing) (j : OpenJob) (a : Asked) (x : Answer) (count : ℕ)
    → IsAnsweredLive s.state s.operation j a x → AreAsks count (answered a x) → next_in (starved count (answered a x)) ≡ next.Finish
    → IsDoneBy s j.before j.call j.boot (starved count (answered a x))
