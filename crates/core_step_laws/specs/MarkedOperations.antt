-- What the turns of operations leave of their own, and what was asked by then.
use Rattle.std.specs.Prelude.{◌≡◌, ℕ, List, [], ◌∷◌, Option, Some}
use Rattle.history_spec.specs.Pass.{own}
use Rattle.domain_spec.specs.Types.{Answer, Ask, Call, Phase, Reply, Transition, Who}
use Rattle.domain_spec.specs.Types.code
use Rattle.domain_spec.specs.Types.job
use Rattle.domain_spec.specs.declared.core_step.CoreStep.TheVariants as step
use Rattle.domain_spec.specs.declared.mark.Mark.{Mark}
use Rattle.domain_spec.specs.declared.mark.Mark.TheVariants as mark
use Rattle.domain_spec.specs.declared.open.OpenOperation.{OpenOperation}
use Rattle.domain_spec.specs.declared.step.Outcome.{Outcome}
use Rattle.domain_spec.specs.declared.step.Outcome.TheVariants as outcome
use Rattle.domain_spec.specs.Call.{job_of}
use Rattle.domain_spec.specs.Cell.{Cell, Share, share_of, standing_of}
use Rattle.domain_spec.specs.Fold.{after_start, taken_up}
use Rattle.domain_spec.specs.Reading.{live_boot}
use Rattle.core_steps.specs.OfLedger.{step_to}
use Rattle.core_steps.specs.OfLedger.{IsToldAtEnd}
use Rattle.core_steps.specs.OfLedger.{Step}
use Rattle.core_steps.specs.Phased.{led_to}
use Rattle.core_steps.specs.Turning.{Takes, Turning}
use Rattle.core_steps.specs.Beginning.{LooksToBegin, LooksToTakeUp}
use Rattle.core_steps.specs.OperationEnding.{Ends}
use Rattle.core_steps.specs.Phasing.{Phases}
use Rattle.core_steps.specs.declared.beginning.OperationLook.{OperationLook}
use Rattle.core_steps.specs.declared.beginning.OperationLook.TheVariants as look
use Rattle.core_steps.specs.declared.phasing.PhaseLook.{PhaseLook}
use Rattle.core_steps.specs.declared.phasing.PhaseLook.TheVariants as phase_look
use Rattle.core_step_laws.specs.Shares.{whose}
use Rattle.core_step_laws.specs.MarkedLooked.{IsDoneAtOnce, IsLetIn}
use Rattle.core_step_laws.specs.Own.{IsTurnedAway}
use Rattle.core_step_laws.specs.Told.{told}

-- the boot that is live
abbrev pub live_in : Cell → Option ℕ
live_in c = live_boot (standing_of c).state

-- what a call leaves of its own that looks whether its operation may begin or be taken up: Admit and this mark, and the
-- operation; Admit and Done; Refused; or nothing
abbrev pub OperationLeaves : ℕ → Who → Call → Cell → Mark ℕ → Type 0 → OperationLook → List (Mark ℕ) → Type 0
OperationLeaves n who d old first IsThere look.Begun left = (own whose n left ≡ mark.Admit n who (job_of d) d (live_in old) ∷ first ∷ []) × IsThere
OperationLeaves n who d old first IsThere (look.Done r) left = IsDoneAtOnce n who d (live_in old) r left
OperationLeaves n who d old first IsThere (look.WaitersFull waiting) left = IsTurnedAway n who d code.TooManyWaiting old left
OperationLeaves n who d old first IsThere other left = own whose n left ≡ []

-- the number has the operation that began
abbrev pub HasStarted : ℕ → Who → Call → Cell → Cell → Type 0
HasStarted n who d old new = (share_of new n).operation ≡ (after_start (standing_of old) n who d).operation

-- the number has the operation that rested, taken up by its call
abbrev pub HasTakenUp : ℕ → Who → Call → Cell → Cell → Type 0
HasTakenUp n who d old new = (o : OpenOperation) × ((standing_of old).operation ≡ Some o) × ((share_of new n).operation ≡ Some (taken_up n who d o))

-- so it is with each call that looks whether its operation may begin
abbrev pub BeginningsLeave : Type 0
BeginningsLeave =
    (old new : Turning) (n : ℕ) (who : Who) (d : Call) (result : OperationLook) → LooksToBegin n who d old new result
    → Takes old new (step.BeginOp n who d) (OperationLeaves n who d old.cell (mark.Start n who d (live_in old.cell)) (HasStarted n who d old.cell new.cell) result)

-- and with each that looks whether it may take one up
abbrev pub TakingsUpLeave : Type 0
TakingsUpLeave =
    (old new : Turning) (n : ℕ) (who : Who) (d : Call) (result : OperationLook) → LooksToTakeUp n who d old new result
    → Takes old new (step.TakeUp n who d) (OperationLeaves n who d old.cell (mark.TakeUp n who d) (HasTakenUp n who d old.cell new.cell) result)

-- the due phase was let in and done, and leads on so; so does the operation; nobody was asked anything
pub record IsPhasedAtOnce (n : ℕ) (who : Who) (boot : Option ℕ) (o : OpenOperation) (now : Option OpenOperation) (st : Step) (left : List (Mark ℕ)) : Type 0 where
  pub phase : Phase
  pub due : o.outcome ≡ outcome.On phase
  pub asks : List Ask
  pub answers : List Answer
  pub next : Outcome
  pub events : List Transition
  pub own_are : own whose n left ≡ mark.Admit n who job.Nested o.call boot ∷ mark.Phase n who phase asks answers next events ∷ []
  pub none_told : told asks answers ≡ []
  pub leads : st ≡ step_to next
  pub operation_is : now ≡ led_to next (Some o)

-- what the turn of a due phase leaves of its own: Admit and Phase, Admit, or nothing
abbrev pub PhaseLeaves : ℕ → Who → Option ℕ → Share → Share → PhaseLook → List (Mark ℕ) → Type 0
PhaseLeaves n who boot old new (phase_look.Away x) left =
    (o : OpenOperation) × (old.operation ≡ Some o) × (new.operation ≡ Some o) × IsLetIn n who job.Nested o.call boot new.call x left
PhaseLeaves n who boot old new (phase_look.Phased st) left = (o : OpenOperation) × (old.operation ≡ Some o) × IsPhasedAtOnce n who boot o new.operation st left
PhaseLeaves n who boot old new other left = own whose n left ≡ []

-- so it is with each due phase
abbrev pub PhasesLeave : Type 0
PhasesLeave =
    (old new : Turning) (n : ℕ) (who : Who) (result : PhaseLook) → Phases n who old new result
    → Takes old new (step.Phase n who) (PhaseLeaves n who (live_in old.cell) (share_of old.cell n) (share_of new.cell n) result)

-- the operation ended with the reply of its last phase, and its caller is told that
pub record IsEndedNow (n : ℕ) (who : Who) (was : Option OpenOperation) (reply : Reply) (left : List (Mark ℕ)) : Type 0 where
  pub operation : OpenOperation
  pub is_open : was ≡ Some operation
  pub last : Reply
  pub over : operation.outcome ≡ outcome.Over last
  pub own_are : own whose n left ≡ mark.End n who last ∷ []
  pub told_so : IsToldAtEnd last reply

-- an operation that ends leaves its End
abbrev pub EndsLeave : Type 0
EndsLeave =
    (old new : Turning) (n : ℕ) (who : Who) (reply : Reply) → Ends n who old new reply
    → Takes old new (step.EndOp n who) (IsEndedNow n who (share_of old.cell n).operation reply)
