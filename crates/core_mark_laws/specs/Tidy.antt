-- Domains without a stored definition have no autostart.
use Rattle.std.specs.Prelude.{◌≡◌, ℕ, List, [], Bool, true, false, is_none, Option, if◌then◌else◌}
use Rattle.domain_spec.specs.Types.{Call, DomainDef, EndReason, State}
use Rattle.domain_spec.specs.Types.state
use Rattle.domain_spec.specs.declared.mark.Mark.{Mark}
use Rattle.domain_spec.specs.declared.planned.PlannedAsk.{PlannedAsk}
use Rattle.domain_spec.specs.declared.standing.Standing.{Standing}
use Rattle.domain_spec.specs.Call.{is_on_stored, plan_of}
use Rattle.domain_spec.specs.Chapter.{opened_state}
use Rattle.domain_spec.specs.Exit.{exit_state}
use Rattle.domain_spec.specs.Fold.{applied}
use Rattle.domain_spec.specs.Sequential.{makes_asks}

-- the flag of a domain without a stored definition
abbrev pub bare_autostart : State → Bool
bare_autostart (state.Vacant boots) = false
bare_autostart (state.Held d) = if is_none d.stored then d.autostart else false

-- it is off
abbrev pub IsTidy : State → Type 0
IsTidy s = bare_autostart s ≡ false

-- a cell as the store was opened
abbrev pub OpenedIsTidy : Type 0
OpenedIsTidy = (stored : Option DomainDef) (autostart : Bool) → IsTidy (opened_state stored autostart)

-- after one more mark, be it lawful or not
abbrev pub EveryMarkKeepsTidy : Type 0
EveryMarkKeepsTidy = (s : Standing) (m : Mark ℕ) → IsTidy s.state → IsTidy (applied s m).state

-- what a call plans to ask
abbrev pub planned : State → Call → Option ℕ → List PlannedAsk
planned s c boot = if makes_asks s c boot then plan_of s c else []

-- a call on the stored definition asks the same where a guest has ended
abbrev pub StoredPlansStay : Type 0
StoredPlansStay =
    (s : State) (c : Call) (boot : Option ℕ) (why : EndReason) → IsTidy s → is_on_stored c ≡ true
    → planned (exit_state s why) c boot ≡ planned s c boot
