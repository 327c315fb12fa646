-- What a look leaves of its own, and what was asked by then.
use Rattle.std.specs.Prelude.{◌≡◌, ℕ, List, [], ◌∷◌, ◌++◌, Option, None, Some}
use Rattle.history_spec.specs.Pass.{own}
use Rattle.domain_spec.specs.Types.{Answer, Ask, Call, Job, Reply, Transition, Who}
use Rattle.domain_spec.specs.Types.code
use Rattle.domain_spec.specs.declared.core_step.CoreStep.TheVariants as step
use Rattle.domain_spec.specs.declared.core_step.First.{First}
use Rattle.domain_spec.specs.declared.mark.Mark.{Mark}
use Rattle.domain_spec.specs.declared.mark.Mark.TheVariants as mark
use Rattle.domain_spec.specs.Call.{job_of}
use Rattle.domain_spec.specs.Cell.{Cell, OpenCall, share_of, standing_of}
use Rattle.domain_spec.specs.Reading.{live_boot}
use Rattle.core_steps.specs.declared.looking.Looked.{Looked}
use Rattle.core_steps.specs.declared.looking.Looked.TheVariants as looked
use Rattle.core_steps.specs.Looking.{Looks, boot_first}
use Rattle.core_steps.specs.Turning.{Takes, Turning}
use Rattle.core_step_laws.specs.Shares.{whose}
use Rattle.core_step_laws.specs.Own.{IsTurnedAway}
use Rattle.core_step_laws.specs.Told.{told}

-- the call was let in and done, with this reply; nobody was asked anything
pub record IsDoneAtOnce (n : ℕ) (who : Who) (d : Call) (boot : Option ℕ) (r : Reply) (left : List (Mark ℕ)) : Type 0 where
  pub asks : List Ask
  pub answers : List Answer
  pub events : List Transition
  pub own_are : own whose n left ≡ mark.Admit n who (job_of d) d boot ∷ mark.Done n who d boot asks answers r events ∷ []
  pub none_told : told asks answers ≡ []

-- the call was let in under this job and asks this, and is open so; nobody was asked anything before
pub record IsLetIn (n : ℕ) (who : Who) (wanted : Job) (d : Call) (boot : Option ℕ) (now : Option OpenCall) (x : Ask) (left : List (Mark ℕ)) : Type 0 where
  pub own_are : own whose n left ≡ mark.Admit n who wanted d boot ∷ []
  pub away : OpenCall
  pub is_open : now ≡ Some away
  pub job_is : away.job ≡ record { number = n; who = who; job = wanted; call = d; boot = boot; before = None }
  pub none_told : told away.asks away.answers ≡ []
  pub before : List Ask
  pub asks_last : away.asks ≡ before ++ x ∷ []

-- what a look leaves of its own: Admit and Done, Admit, Refused, or nothing
abbrev pub LookLeaves : ℕ → Who → Call → First → Cell → Cell → Looked → List (Mark ℕ) → Type 0
LookLeaves n who d f old new (looked.Done r) left = IsDoneAtOnce n who d (boot_first f (live_boot (standing_of old).state)) r left
LookLeaves n who d f old new (looked.Away x) left = IsLetIn n who (job_of d) d (boot_first f (live_boot (standing_of old).state)) (share_of new n).call x left
LookLeaves n who d f old new (looked.WaitersFull waiting) left = IsTurnedAway n who d code.TooManyWaiting old left
LookLeaves n who d f old new other left = own whose n left ≡ []

-- so it is with each look
abbrev pub LooksLeave : Type 0
LooksLeave =
    (old new : Turning) (n : ℕ) (who : Who) (d : Call) (f : First) (result : Looked) → Looks n who d f old new result
    → Takes old new (step.Look n who d f) (LookLeaves n who d f old.cell new.cell result)
