-- When each mark of a call is lawful, by what is in force before it.
use Rattle.std.specs.Prelude.{◌≡◌, ℕ, ◌⊎◌, List, [], ◌∷◌, true, false, Option, None, Some}
use Rattle.domain_spec.specs.Types.{Answer, Ask, Call, Job, Phase, RefusalCode, Reply, State, Transition, Who}
use Rattle.domain_spec.specs.Types.answer
use Rattle.domain_spec.specs.Types.job
use Rattle.domain_spec.specs.declared.mark.HeldJobs.{HeldJobs}
use Rattle.domain_spec.specs.declared.open.OpenJob.{OpenJob}
use Rattle.domain_spec.specs.declared.open.OpenOperation.{OpenOperation}
use Rattle.domain_spec.specs.declared.standing.Standing.{Standing}
use Rattle.domain_spec.specs.declared.step.Outcome.{Outcome}
use Rattle.domain_spec.specs.declared.step.Outcome.TheVariants as outcome
use Rattle.domain_spec.specs.Call.{takes_up}
use Rattle.domain_spec.specs.Open.{Excludes, MayAdmit, IsCarried, IsOwnJob, IsRecord, IsRefusedAs, job_held, operation_held}
use Rattle.domain_spec.specs.Phase.{phase_asked, phase_of, phase_still_asked}
use Rattle.domain_spec.specs.Reading.{carries_ended}
use Rattle.domain_spec.specs.Sequential.{asked, goes_on_as_operation, meets_ended, still_asked}
use Rattle.domain_spec.specs.TakeUp.{step_at, takes_it_up}
pub use Rattle.domain_spec.specs.Planned.{AreUnsent, EndedFirst, IsOpen, IsUnsent, IsUnsentUntilMade, UnsentBefore, WerePlanned, planned_in}

-- a call is let in
pub record IsAdmitted (s : Standing) (number : ℕ) (who : Who) (wanted : Job) (c : Call) (boot : Option ℕ) : Type 0 where
  pub may : MayAdmit (job_held s.job) (operation_held s.operation) (takes_up c) wanted who
  pub own : IsOwnJob s.operation number wanted c
  pub carried : IsCarried s.state c boot

-- a call is done as the sequential driver does it
pub record IsDoneAs (s : Standing) (before : Option State) (c : Call) (boot : Option ℕ) (asks : List Ask) (answers : List Answer) (r : Reply) (events : List Transition) : Type 0 where
  pub planned : WerePlanned (planned_in (meets_ended s.state c boot) s.state before) (λ at. asked at c boot answers) asks answers
  pub through : still_asked s.state c boot answers ≡ []
  pub no_operation : goes_on_as_operation s.state c boot ≡ false
  pub not_taken_up : takes_it_up s c boot ≡ false
  pub ended_first : EndedFirst (meets_ended s.state c boot) answers
  pub unsent : IsUnsentUntilMade s.operation boot asks answers
  pub reply : r ≡ (step_at s c boot answers).reply
  pub told : events ≡ (step_at s c boot answers).transitions

-- the open call is done
abbrev pub IsDone : Standing → Option OpenJob → ℕ → Who → Call → Option ℕ → List Ask → List Answer → Reply → List Transition → Type 0
IsDone s None number who c boot asks answers r events = ⊥
IsDone s (Some j) number who c boot asks answers r events = IsOpen j number who c boot × IsDoneAs s j.before c boot asks answers r events

-- a call is refused since its job is excluded
pub record IsLawfulRefusal (s : Standing) (who : Who) (c : Call) (why : RefusalCode) (held : HeldJobs) : Type 0 where
  pub held_then : IsRecord s held
  pub excluded : Excludes held.active held.op c who
  pub code : IsRefusedAs why held who

-- an operation begins where none is open: its call was let in right before, and its tests pass
pub record IsStartOf (s : Standing) (j : OpenJob) (number : ℕ) (who : Who) (c : Call) (boot : Option ℕ) : Type 0 where
  pub call : IsOpen j number who c boot
  pub right_before : s.just_admitted ≡ true
  pub alone : s.operation ≡ None
  pub begins : goes_on_as_operation s.state c boot ≡ true

-- the open call begins its operation
abbrev pub IsStarted : Standing → Option OpenJob → ℕ → Who → Call → Option ℕ → Type 0
IsStarted s None number who c boot = ⊥
IsStarted s (Some j) number who c boot = IsStartOf s j number who c boot

-- an operation that rests is taken up: the call was let in right before
pub record IsTakeUpOf (s : Standing) (j : OpenJob) (number : ℕ) (who : Who) (c : Call) : Type 0 where
  pub call : IsOpen j number who c j.boot
  pub right_before : s.just_admitted ≡ true
  pub takes : takes_it_up s c j.boot ≡ true

-- the open call takes the operation up
abbrev pub IsTakenUp : Standing → Option OpenJob → ℕ → Who → Call → Type 0
IsTakenUp s None number who c = ⊥
IsTakenUp s (Some j) number who c = IsTakeUpOf s j number who c

-- a nested job of this operation is open under this number
pub record IsNested (j : OpenJob) (o : OpenOperation) (number : ℕ) (who : Who) : Type 0 where
  pub nested : j.job ≡ job.Nested
  pub job_number : number ≡ j.number
  pub job_caller : j.who ≡ o.who
  pub numbered : number ≡ o.number
  pub caller : who ≡ o.who

-- a phase that found no memory before its first ask has no ask, and that one answer
abbrev pub IsStarved : List Ask → List Answer → Type 0
IsStarved asks answers = (asks ≡ []) × (answers ≡ answer.NoMemory ∷ [])

-- the asks of a phase, planned where its boot was live, are all made
pub record IsPhaseMade (s : State) (before : Option State) (o : OpenOperation) (asks : List Ask) (answers : List Answer) : Type 0 where
  pub planned : WerePlanned (planned_in (carries_ended s o.boot) s before) (λ at. phase_asked at o answers) asks answers
  pub through : phase_still_asked s o answers ≡ []

-- a phase is done as the table of operations has it
pub record IsPhaseOf (s : Standing) (j : OpenJob) (o : OpenOperation) (number : ℕ) (who : Who) (p : Phase) (asks : List Ask) (answers : List Answer) (next : Outcome) (events : List Transition) : Type 0 where
  pub nested : IsNested j o number who
  pub due : o.outcome ≡ outcome.On p
  pub made : IsPhaseMade s.state j.before o asks answers ⊎ IsStarved asks answers
  pub ended_first : EndedFirst (carries_ended s.state o.boot) answers
  pub outcome_is : next ≡ (phase_of s.state o answers).outcome
  pub told : events ≡ (phase_of s.state o answers).transitions

-- the due phase of the open operation is done
abbrev pub IsPhased : Standing → Option OpenJob → Option OpenOperation → ℕ → Who → Phase → List Ask → List Answer → Outcome → List Transition → Type 0
IsPhased s (Some j) (Some o) number who p asks answers next events = IsPhaseOf s j o number who p asks answers next events
IsPhased s j o number who p asks answers next events = ⊥

-- no nested job is open
abbrev pub NoneNested : Option OpenJob → Type 0
NoneNested None = Unit {0}
NoneNested (Some j) = j.job ≡ job.Nested → ⊥

-- an operation ends with the reply of its last phase, while no nested job is open
pub record IsEndOf (s : Standing) (o : OpenOperation) (number : ℕ) (who : Who) (r : Reply) : Type 0 where
  pub numbered : number ≡ o.number
  pub caller : who ≡ o.who
  pub over : o.outcome ≡ outcome.Over r
  pub no_nested : NoneNested s.job

-- the open operation ends
abbrev pub IsEnded : Standing → Option OpenOperation → ℕ → Who → Reply → Type 0
IsEnded s None number who r = ⊥
IsEnded s (Some o) number who r = IsEndOf s o number who r
