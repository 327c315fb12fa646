-- Which turns a pass may take, by what the domain keeps for its number alone.
use Rattle.std.specs.Prelude.{◌≡◌, ℕ, ◌+◌, length, is_some, true, IfSome, Option, None, Some}
use Rattle.domain_spec.specs.Types.{Answer, Call, Who}
use Rattle.domain_spec.specs.Types.call
use Rattle.domain_spec.specs.declared.core_step.CoreStep.TheVariants as step
use Rattle.domain_spec.specs.declared.core_step.First.{First}
use Rattle.domain_spec.specs.declared.core_step.First.TheVariants as first
use Rattle.domain_spec.specs.Call.{begins, takes_up}
use Rattle.domain_spec.specs.CanTake.{CanLook, CanTake}
use Rattle.domain_spec.specs.Cell.{Cell, OpenCall, Share, share_of, standing_of}
use Rattle.core_steps.specs.OperationEnding.{CanEnd}
use Rattle.core_steps.specs.Phasing.{IsDue}
use Rattle.core_owed.specs.Taking.{taken_by}

-- nothing of the pass is open, and it waits as this caller or doesn't wait
pub record IsFree (s : Share) (who : Who) : Type 0 where
  pub no_call : s.call ≡ None
  pub no_operation : s.operation ≡ None
  pub waits : IfSome s.waits (λ w. w ≡ who)

-- the boot of a first look is kept by a Destroy whose pass waits
abbrev pub KeepsFirst : Share → Who → Call → First → Type 0
KeepsFirst s who d first.Now = Unit {0}
KeepsFirst s who d (first.Boot boot) = (d ≡ call.Destroy) × (s.waits ≡ Some who)

-- a pass of which nothing is open may look
abbrev pub FreeSharesLook : Type 0
FreeSharesLook =
    (c : Cell) (n : ℕ) (who : Who) (d : Call) (f : First) → IsFree (share_of c n) who → KeepsFirst (share_of c n) who d f → begins d ≡ None → takes_up d ≡ None → CanLook c n who d f

-- and may begin an operation, or take one up
abbrev pub FreeSharesBegin : Type 0
FreeSharesBegin = (c : Cell) (n : ℕ) (who : Who) (d : Call) → IsFree (share_of c n) who → is_some (begins d) ≡ true → CanTake c (step.BeginOp n who d)

abbrev pub FreeSharesTakeUp : Type 0
FreeSharesTakeUp = (c : Cell) (n : ℕ) (who : Who) (d : Call) → IsFree (share_of c n) who → is_some (takes_up d) ≡ true → CanTake c (step.TakeUp n who d)

-- the last ask of its open call waits for an answer
abbrev pub AwaitsAnswer : Option OpenCall → Type 0
AwaitsAnswer None = ⊥
AwaitsAnswer (Some oc) = length oc.asks ≡ length oc.answers + 1

-- so it may be answered
abbrev pub OpenSharesGoBack : Type 0
OpenSharesGoBack = (c : Cell) (n : ℕ) (x : Answer) → AwaitsAnswer (share_of c n).call → CanTake c (step.Back n x)

-- a pass that has an operation open may go on with its due phase, and end it once it is over
abbrev pub OperationSharesPhase : Type 0
OperationSharesPhase = (c : Cell) (n : ℕ) (who : Who) → IsDue (share_of c n).operation n who → IsDue (standing_of c).operation n who

abbrev pub OperationSharesEnd : Type 0
OperationSharesEnd = (c : Cell) (n : ℕ) (who : Who) → CanEnd (share_of c n).operation n who → CanEnd (standing_of c).operation n who

-- a pass that has a registration may take what pends for it
abbrev pub RegisteredSharesTake : Type 0
RegisteredSharesTake = (c : Cell) (n client taken : ℕ) → taken_by (share_of c n).registrations client ≡ Some taken → CanTake c (step.Take n client)
