-- What the turn of an answer leaves of its own, and what was asked by then.
use Rattle.std.specs.Prelude.{◌≡◌, ℕ, List, [], ◌∷◌, ◌++◌, Some}
use Rattle.history_spec.specs.Pass.{own}
use Rattle.domain_spec.specs.Types.{Answer, Ask, Phase, Reply, Transition}
use Rattle.domain_spec.specs.declared.core_step.CoreStep.TheVariants as step
use Rattle.domain_spec.specs.declared.mark.Mark.{Mark}
use Rattle.domain_spec.specs.declared.mark.Mark.TheVariants as mark
use Rattle.domain_spec.specs.declared.open.OpenOperation.{OpenOperation}
use Rattle.domain_spec.specs.declared.step.Outcome.{Outcome}
use Rattle.domain_spec.specs.declared.step.Outcome.TheVariants as outcome
use Rattle.domain_spec.specs.Cell.{OpenCall, Share, share_of, standing_of}
use Rattle.core_steps.specs.OfLedger.{step_to}
use Rattle.core_steps.specs.OfLedger.{Back}
use Rattle.core_steps.specs.OfLedger.back_variants as back
use Rattle.core_steps.specs.OfLedger.{Step}
use Rattle.core_steps.specs.Answering.{GoesBack}
use Rattle.core_steps.specs.Phased.{led_to}
use Rattle.core_steps.specs.Turning.{Takes, Turning}
use Rattle.core_step_laws.specs.Shares.{whose}
use Rattle.core_step_laws.specs.Steady.{IsSteady}
use Rattle.core_step_laws.specs.Told.{told, told_then}

-- the open call, which asked this last and was answered so, is done with this reply, and with all that it was told
pub record IsDoneNow (n : ℕ) (c : OpenCall) (y : Ask) (x : Answer) (r : Reply) (left : List (Mark ℕ)) : Type 0 where
  pub asks : List Ask
  pub answers : List Answer
  pub events : List Transition
  pub own_are : own whose n left ≡ mark.Done n c.job.who c.job.call c.job.boot asks answers r events ∷ []
  pub told_is : told asks answers ≡ told_then c y x

-- it is open as it was let in, was told that answer beside what it was told before, and asks this next
pub record IsAwayStill (n : ℕ) (c : OpenCall) (y : Ask) (x : Answer) (old new : Share) (z : Ask) (left : List (Mark ℕ)) : Type 0 where
  pub own_are : own whose n left ≡ []
  pub away : OpenCall
  pub is_open : new.call ≡ Some away
  pub job_is : away.job ≡ c.job
  pub told_is : told away.asks away.answers ≡ told_then c y x
  pub before : List Ask
  pub asks_last : away.asks ≡ before ++ z ∷ []
  pub operation_is : new.operation ≡ old.operation

-- the phase that was due is done, with all that it was told, and leads on so; so does the operation
pub record IsPhasedNow (n : ℕ) (c : OpenCall) (y : Ask) (x : Answer) (old new : Share) (st : Step) (left : List (Mark ℕ)) : Type 0 where
  pub operation : OpenOperation
  pub is_open : old.operation ≡ Some operation
  pub its_caller : c.job.who ≡ operation.who
  pub phase : Phase
  pub due : operation.outcome ≡ outcome.On phase
  pub asks : List Ask
  pub answers : List Answer
  pub next : Outcome
  pub events : List Transition
  pub own_are : own whose n left ≡ mark.Phase n c.job.who phase asks answers next events ∷ []
  pub told_is : told asks answers ≡ told_then c y x
  pub leads : st ≡ step_to next
  pub operation_is : new.operation ≡ led_to next (Some operation)

-- what the turn of an answer leaves of its own: Done, Phase, or nothing
abbrev pub BackLeaves : ℕ → OpenCall → Ask → Answer → Share → Share → Back → List (Mark ℕ) → Type 0
BackLeaves n c y x old new (back.Done r) left = IsDoneNow n c y x r left
BackLeaves n c y x old new (back.Away z) left = IsAwayStill n c y x old new z left
BackLeaves n c y x old new (back.Phased st) left = IsPhasedNow n c y x old new st left

-- so it is with each answer, where the open call asked this last
abbrev pub AnswersLeave : Type 0
AnswersLeave =
    (old new : Turning) (n : ℕ) (x : Answer) (result : Back) (c : OpenCall) (before : List Ask) (y : Ask) → GoesBack n x old new result
    → IsSteady (standing_of old.cell) → (share_of old.cell n).call ≡ Some c → c.asks ≡ before ++ y ∷ []
    → Takes old new (step.Back n x) (BackLeaves n c y x (share_of old.cell n) (share_of new.cell n) result)
