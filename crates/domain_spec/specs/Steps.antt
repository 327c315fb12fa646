-- What each step of a domain may leave: the marks of its turn, one after the other.
use Rattle.std.specs.Prelude.{◌≡◌, ◌⊎◌, ℕ, List, ◌∷◌, ◌++◌, map, replicate, slice_get, true, Option, None, Some}
use Rattle.domain_spec.specs.Types.{Answer, Call, EndReason, GuestEvent, Job, RefusalCode, Transition, Who}
use Rattle.domain_spec.specs.Types.answer
use Rattle.domain_spec.specs.Types.code
use Rattle.domain_spec.specs.Types.job
use Rattle.domain_spec.specs.Types.reason
use Rattle.domain_spec.specs.declared.core_step.CoreStep.{CoreStep}
use Rattle.domain_spec.specs.declared.core_step.CoreStep.TheVariants as step
use Rattle.domain_spec.specs.declared.mark.HeldJobs.{HeldJobs}
use Rattle.domain_spec.specs.declared.open.OpenJob.{OpenJob}
use Rattle.domain_spec.specs.declared.open.OpenOperation.{OpenOperation}
use Rattle.domain_spec.specs.declared.standing.Standing.{Standing}
use Rattle.domain_spec.specs.Call.{job_of, takes_up}
use Rattle.domain_spec.specs.Carried.{IsBootAt}
use Rattle.domain_spec.specs.Cell.{Cell, standing_of}
use Rattle.domain_spec.specs.Exit.{exit_transitions}
use Rattle.domain_spec.specs.JobTable.{MayBegin}
use Rattle.domain_spec.specs.Open.{MayAdmit, OperationGoesOn, job_held, operation_held}
use Rattle.domain_spec.specs.Reading.{is_live, live_boot}

-- an Admit is that of the step's own call, under its own job
pub record IsAdmitOf (n : ℕ) (who : Who) (d : Call) (number : ℕ) (w : Who) (wanted : Job) (e : Call) : Type 0 where
  pub numbered : number ≡ n
  pub caller : w ≡ who
  pub same_call : e ≡ d
  pub own_job : wanted ≡ job_of d

-- a nested Admit is that of the due phase of the open operation
pub record IsPhaseAdmit (s : Standing) (o : OpenOperation) (number : ℕ) (w : Who) (wanted : Job) (e : Call) (boot : Option ℕ) : Type 0 where
  pub free : s.job ≡ None
  pub numbered : number ≡ o.number
  pub caller : w ≡ o.who
  pub same_call : e ≡ o.call
  pub nested : wanted ≡ job.Nested
  pub due : OperationGoesOn o.outcome
  pub carried : boot ≡ live_boot s.state

-- the due phase of the open operation is let in
abbrev pub IsPhaseLetIn : Standing → Option OpenOperation → ℕ → Who → Job → Call → Option ℕ → Type 0
IsPhaseLetIn s None number w wanted e boot = ⊥
IsPhaseLetIn s (Some o) number w wanted e boot = IsPhaseAdmit s o number w wanted e boot

-- a step lets its call in
abbrev pub LetsIn : Cell → CoreStep ℕ → ℕ → Who → Job → Call → Option ℕ → Type 0
LetsIn c (step.Look n who d first) number w wanted e boot =
    IsAdmitOf n who d number w wanted e × IsBootAt first c.base c.marks boot
    × MayAdmit (job_held (standing_of c).job) (operation_held (standing_of c).operation) (takes_up d) (job_of d) who
LetsIn c (step.BeginOp n who d) number w wanted e boot =
    IsAdmitOf n who d number w wanted e × (boot ≡ live_boot (standing_of c).state)
    × MayBegin (job_held (standing_of c).job) (operation_held (standing_of c).operation)
LetsIn c (step.TakeUp n who d) number w wanted e boot =
    IsAdmitOf n who d number w wanted e × (boot ≡ live_boot (standing_of c).state)
    × MayAdmit (job_held (standing_of c).job) (operation_held (standing_of c).operation) (takes_up d) (job_of d) who
LetsIn c (step.Phase n who) number w wanted e boot = IsPhaseLetIn (standing_of c) (standing_of c).operation number w wanted e boot
LetsIn c other number w wanted e boot = ⊥

-- a Refused is that of the step's own call, which found those waiting who wait
pub record IsTurnedAway (c : Cell) (n : ℕ) (who : Who) (d : Call) (number : ℕ) (w : Who) (e : Call) (held : HeldJobs) : Type 0 where
  pub numbered : number ≡ n
  pub caller : w ≡ who
  pub same_call : e ≡ d
  pub waiting : held.waiting ≡ map (λ w. w.who) c.queue.callers

-- a step turns its call away: too many others wait, or it looked often enough
abbrev pub TurnsAway : Cell → CoreStep ℕ → ℕ → Who → Call → RefusalCode → HeldJobs → Type 0
TurnsAway c (step.Look n who d first) number w e why held = IsTurnedAway c n who d number w e held × (why ≡ code.TooManyWaiting)
TurnsAway c (step.BeginOp n who d) number w e why held = IsTurnedAway c n who d number w e held × (why ≡ code.TooManyWaiting)
TurnsAway c (step.TakeUp n who d) number w e why held = IsTurnedAway c n who d number w e held × (why ≡ code.TooManyWaiting)
TurnsAway c (step.GiveUp n who d) number w e why held = IsTurnedAway c n who d number w e held × (why ≡ code.OperationTimeout)
TurnsAway c other number w e why held = ⊥

-- what was answered in this turn: the answer that came, then asks for which there was no memory
abbrev pub AnswersBy : Cell → CoreStep ℕ → List Answer → Type 0
AnswersBy c (step.Back n a) answers = (more : ℕ) × (answers ≡ c.answers ++ a ∷ replicate more answer.NoMemory)
AnswersBy c (step.Look n who d first) answers = (more : ℕ) × (answers ≡ replicate more answer.NoMemory)
AnswersBy c (step.BeginOp n who d) answers = (more : ℕ) × (answers ≡ replicate more answer.NoMemory)
AnswersBy c (step.Phase n who) answers = (more : ℕ) × (answers ≡ replicate more answer.NoMemory)
AnswersBy c (step.TakeUp n who d) answers = (more : ℕ) × (answers ≡ replicate more answer.NoMemory)
AnswersBy c other answers = ⊥

-- the open call carries this boot
abbrev pub IsCarriedBy : Option OpenJob → ℕ → Type 0
IsCarriedBy None boot = ⊥
IsCarriedBy (Some j) boot = j.boot ≡ Some boot

-- why a boot's end is marked: it was told, or an ask was answered so
abbrev pub Ends : CoreStep ℕ → Option OpenJob → ℕ → EndReason → Type 0
Ends (step.Exit b r) j boot why = (boot ≡ b) × (why ≡ r)
Ends (step.Back n (answer.Ended r)) j boot why = IsCarriedBy j boot × (why ≡ r)
Ends other j boot why = ⊥

-- or its monitor was lost in this turn
pub record IsExitOf (s : Standing) (t : CoreStep ℕ) (boot : ℕ) (why : EndReason) (events : List Transition) : Type 0 where
  pub by : ((s.lost ≡ Some boot) × (why ≡ reason.Lost)) ⊎ Ends t s.job boot why
  pub live : is_live s.state boot ≡ true
  pub told : events ≡ exit_transitions why

-- an event is the one that was told now, or one that was held
abbrev pub Occurs : Cell → CoreStep ℕ → ℕ → GuestEvent → Type 0
Occurs c (step.Event b g) boot e = (boot ≡ b) × (e ≡ g)
Occurs c other boot e = (place : ℕ) × (slice_get c.held place ≡ Some (record { boot = boot; event = e }))
