-- How a call finds that begins an operation, or takes one up.
use Rattle.std.specs.Prelude.{◌≡◌, ◌⊎◌, ℕ, List, [], ◌∷◌}
use Rattle.domain_spec.specs.Types.{Call, Who}
use Rattle.domain_spec.specs.Types.code
use Rattle.domain_spec.specs.declared.core_step.CoreStep.{CoreStep}
use Rattle.domain_spec.specs.declared.core_step.CoreStep.TheVariants as step
use Rattle.domain_spec.specs.declared.mark.Mark.{Mark}
use Rattle.domain_spec.specs.declared.mark.Mark.TheVariants as mark
use Rattle.domain_spec.specs.Cell.{Queue, share_of, standing_of}
use Rattle.domain_spec.specs.JobTable.{MayBegin, MayTakeUp}
use Rattle.domain_spec.specs.Kept.{left_queue}
use Rattle.domain_spec.specs.Open.{Excludes, job_held, operation_held}
use Rattle.domain_spec.specs.Reading.{live_boot}
use Rattle.core_log.specs.Below.core_flight.declared.ledger.Begun.{Begun}
use Rattle.core_log.specs.Below.core_flight.declared.ledger.Begun.TheVariants as begun
use Rattle.core_log.specs.Operating.{Begins, TakesUp}
use Rattle.core_log.specs.Record.{Recorded, admit_of, force_of}
use Rattle.core_steps.specs.Looking.{IsFound, Waits, with_room}
use Rattle.core_steps.specs.Refusing.{HasRefused}
use Rattle.core_steps.specs.Turning.{HasDone, Takes, Turning}
use Rattle.core_steps.specs.declared.looking.Looked.TheVariants as looked
use Rattle.core_steps.specs.Phasing.{IsDue}
use Rattle.core_steps.specs.declared.beginning.OperationLook.{OperationLook}
use Rattle.core_steps.specs.declared.beginning.OperationLook.TheVariants as look

-- a call was let in: it has its operation, or is refused; and it waits no more
abbrev pub Enters : (Recorded → Recorded → Begun → Type 0) → ℕ → Who → Recorded → Recorded → Queue → Queue → OperationLook → Type 0
Enters Goes n who old new q p look.Begun = (spare : ℕ) × Goes (with_room old spare) new begun.GoesOn × (p ≡ left_queue q n who)
Enters Goes n who old new q p (look.Done r) = (spare : ℕ) × Goes (with_room old spare) new (begun.Done r) × (p ≡ left_queue q n who)
Enters Goes n who old new q p look.NoMemory = (new ≡ with_room old new.spare) × (p ≡ left_queue q n who)
Enters Goes n who old new q p other = ⊥

-- it is excluded, and waits or is turned away as any other call
abbrev pub WaitsSo : ℕ → Who → Call → Recorded → Recorded → Queue → Queue → OperationLook → Type 0
WaitsSo n who c old new q p (look.Excluded held boot looks) = Waits n who c old new q p (looked.Excluded held boot looks)
WaitsSo n who c old new q p (look.WaitersFull waiting) = Waits n who c old new q p (looked.WaitersFull waiting)
WaitsSo n who c old new q p look.NoMemory = Waits n who c old new q p looked.NoMemory
WaitsSo n who c old new q p other = ⊥

-- a call looked that begins an operation
abbrev pub BeginsSo : ℕ → Who → Call → Recorded → Recorded → Queue → Queue → OperationLook → Type 0
BeginsSo n who c old new q p result =
    (MayBegin (job_held (force_of old).job) (operation_held (force_of old).operation)
    × Enters (Begins n who c (live_boot (force_of old).state)) n who old new q p result)
    ⊎ (Excludes (job_held (force_of old).job) (operation_held (force_of old).operation) c who × WaitsSo n who c old new q p result)

-- a call looked that takes an operation up
abbrev pub TakesUpSo : ℕ → Who → Call → Recorded → Recorded → Queue → Queue → OperationLook → Type 0
TakesUpSo n who c old new q p result =
    (MayTakeUp (job_held (force_of old).job) (operation_held (force_of old).operation)
    × Enters (TakesUp n who c (live_boot (force_of old).state)) n who old new q p result)
    ⊎ (Excludes (job_held (force_of old).job) (operation_held (force_of old).operation) c who × WaitsSo n who c old new q p result)

-- these are the marks now, and a phase of the number's operation is due
abbrev pub HasBegun : ℕ → Who → Turning → List (Mark ℕ) → List (Mark ℕ) → Type 0
HasBegun n who new marks left = (left ≡ marks) × IsDue (share_of new.cell n).operation n who

-- what the turn of this step comes to, where these are the marks once the operation goes on
abbrev pub Looks : CoreStep ℕ → List (Mark ℕ) → ℕ → Who → Call → Turning → Turning → OperationLook → Type 0
Looks t marks n who c old new look.Begun = Takes old new t (HasBegun n who new marks)
Looks t marks n who c old new (look.Done r) = Takes old new t (HasDone n r)
Looks t marks n who c old new (look.Excluded held boot looks) = Takes old new t (λ left. (left ≡ []) × IsFound old new who c held.active held.op boot looks)
Looks t marks n who c old new (look.WaitersFull waiting) = Takes old new t (λ left. HasRefused n who c code.TooManyWaiting left × (waiting ≡ 32))
Looks t marks n who c old new look.NoMemory = Takes old new t (λ left. left ≡ [])

-- the Admit of a call, with the boot that is live
abbrev pub admit_in : Turning → ℕ → Who → Call → Mark ℕ
admit_in old n who c = admit_of n who c (live_boot (standing_of old.cell).state)

-- what the turn comes to of a call that begins an operation
abbrev pub LooksToBegin : ℕ → Who → Call → Turning → Turning → OperationLook → Type 0
LooksToBegin n who c old new result =
    Looks (step.BeginOp n who c) (admit_in old n who c ∷ mark.Start n who c (live_boot (standing_of old.cell).state) ∷ []) n who c old new result

-- what the turn comes to of a call that takes one up
abbrev pub LooksToTakeUp : ℕ → Who → Call → Turning → Turning → OperationLook → Type 0
LooksToTakeUp n who c old new result = Looks (step.TakeUp n who c) (admit_in old n who c ∷ mark.TakeUp n who c ∷ []) n who c old new result
