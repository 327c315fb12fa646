-- What the turns of operations leave of the share of their own number.
use Rattle.std.specs.Prelude.{◌≡◌, ℕ, Option, None}
use Rattle.domain_spec.specs.Types.{Call, Reply, Who}
use Rattle.domain_spec.specs.declared.open.OpenOperation.{OpenOperation}
use Rattle.domain_spec.specs.Cell.{Share, share_of}
use Rattle.core_steps.specs.OfLedger.back_variants as back
use Rattle.core_steps.specs.Turning.{Turning}
use Rattle.core_steps.specs.Beginning.{LooksToBegin, LooksToTakeUp}
use Rattle.core_steps.specs.OperationEnding.{Ends}
use Rattle.core_steps.specs.Phasing.{IsDue, Phases}
use Rattle.core_steps.specs.declared.beginning.OperationLook.{OperationLook}
use Rattle.core_steps.specs.declared.beginning.OperationLook.TheVariants as look
use Rattle.core_steps.specs.declared.phasing.PhaseLook.{PhaseLook}
use Rattle.core_steps.specs.declared.phasing.PhaseLook.TheVariants as phase_look
use Rattle.core_step_laws.specs.Answered.{IsAnsweredTo}
use Rattle.core_step_laws.specs.Looked.{MayWait, WaitsOn}
use Rattle.core_step_laws.specs.Staying.{AsideStays}

-- nobody waits any more, but where the call was excluded, or without memory
abbrev pub WaitsBy : Who → OperationLook → Option Who → Type 0
WaitsBy who (look.Excluded held boot looks) now = WaitsOn who looks now
WaitsBy who look.NoMemory now = MayWait who now
WaitsBy who other now = now ≡ None

-- a phase of the caller's operation is due where that began, or was taken up; else the operation stays
abbrev pub OperationBy : ℕ → Who → OperationLook → Option OpenOperation → Option OpenOperation → Type 0
OperationBy n who look.Begun was now = IsDue now n who
OperationBy n who other was now = now ≡ was

-- what a call leaves of its share that looks whether its operation may begin, or be taken up
pub record IsLookedFor (n : ℕ) (who : Who) (s t : Share) (result : OperationLook) : Type 0 where
  pub call : t.call ≡ None
  pub operation : OperationBy n who result s.operation t.operation
  pub registrations : t.registrations ≡ s.registrations
  pub ears : t.ears ≡ s.ears
  pub waits : WaitsBy who result t.waits

-- so it is with each call that begins an operation
abbrev pub BeginningsKeep : Type 0
BeginningsKeep =
    (old new : Turning) (n : ℕ) (who : Who) (d : Call) (result : OperationLook) → LooksToBegin n who d old new result
    → IsLookedFor n who (share_of old.cell n) (share_of new.cell n) result

-- and with each that takes one up
abbrev pub TakingsUpKeep : Type 0
TakingsUpKeep =
    (old new : Turning) (n : ℕ) (who : Who) (d : Call) (result : OperationLook) → LooksToTakeUp n who d old new result
    → IsLookedFor n who (share_of old.cell n) (share_of new.cell n) result

-- a due phase that is let in leaves what an answer leaves by which it asks on, or is done; else all stays
abbrev pub IsAfterPhase : PhaseLook → Share → Share → Type 0
IsAfterPhase (phase_look.Away x) s t = IsAnsweredTo s t (back.Away x)
IsAfterPhase (phase_look.Phased st) s t = IsAnsweredTo s t (back.Phased st)
IsAfterPhase other s t = t ≡ s

-- so it is with each due phase
abbrev pub PhasesKeep : Type 0
PhasesKeep =
    (old new : Turning) (n : ℕ) (who : Who) (result : PhaseLook) → Phases n who old new result
    → IsAfterPhase result (share_of old.cell n) (share_of new.cell n)

-- an operation ended: none is open, nor a call where none was
pub record IsEndedIn (s t : Share) : Type 0 where
  pub aside : AsideStays s t
  pub operation : t.operation ≡ None
  pub call : s.call ≡ None → t.call ≡ None

-- so it is with each end
abbrev pub EndsKeep : Type 0
EndsKeep = (old new : Turning) (n : ℕ) (who : Who) (told : Reply) → Ends n who old new told → IsEndedIn (share_of old.cell n) (share_of new.cell n)
