-- What makes sure that what was asked stays what is asked.
use Rattle.std.specs.Prelude.{◌≡◌, ℕ, List, true, Bool, Option, None, Some}
use Rattle.domain_spec.specs.Types.{DomainDef, State}
use Rattle.domain_spec.specs.declared.core_step.CoreStep.{CoreStep}
use Rattle.domain_spec.specs.declared.mark.Mark.{Mark}
use Rattle.domain_spec.specs.declared.open.OpenJob.{OpenJob}
use Rattle.domain_spec.specs.declared.standing.Standing.{Standing}
use Rattle.domain_spec.specs.Call.{is_on_stored}
use Rattle.domain_spec.specs.Cell.{Cell, standing_of}
use Rattle.domain_spec.specs.Reading.{live_boot}
use Rattle.domain_spec.specs.Turns.{IsOpened, IsTurn, Leads}
use Rattle.core_steps.specs.OfAsks.{IsTidy, planned}
use Rattle.core_step_laws.specs.Shares.{AsksStay, IsStepOf}

-- no guest is live, and a call on the stored definition plans what it planned then
pub record IsSince (s : State) (j : OpenJob) (before : State) : Type 0 where
  pub gone : live_boot s ≡ None
  pub stored : is_on_stored j.call ≡ true → planned s j.call j.boot ≡ planned before j.call j.boot

-- so it is where the boot of the call has ended
abbrev pub IsSinceAt : State → OpenJob → Option State → Type 0
IsSinceAt s j None = Unit {0}
IsSinceAt s j (Some before) = IsSince s j before

-- the same of what is open
abbrev pub IsSinceIn : State → Option OpenJob → Type 0
IsSinceIn s None = Unit {0}
IsSinceIn s (Some j) = IsSinceAt s j j.before

-- without a stored definition there is no autostart, and an open call plans as it did
pub record IsSteady (s : Standing) : Type 0 where
  pub tidy : IsTidy s.state
  pub since : IsSinceIn s.state s.job

-- so it is in a cell as the store was opened
abbrev pub OpenedIsSteady : Type 0
OpenedIsSteady = (c : Cell) (stored : Option DomainDef) (autostart : Bool) → IsOpened c stored autostart → IsSteady (standing_of c)

-- and after each turn
abbrev pub TurnsKeepSteady : Type 0
TurnsKeepSteady = (c d : Cell) (t : CoreStep ℕ) (left : List (Mark ℕ)) → IsTurn c t left → Leads c t left d → IsSteady (standing_of c) → IsSteady (standing_of d)

-- a call that is open under another number has asked the same after a turn, and was answered the same
abbrev pub OthersAskOn : Type 0
OthersAskOn = (c d : Cell) (t : CoreStep ℕ) (n : ℕ) (left : List (Mark ℕ)) → IsStepOf n t → IsTurn c t left → Leads c t left d → IsSteady (standing_of c) → AsksStay n c d
