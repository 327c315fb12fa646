-- When the link that is here is that of the guest that is there.
use Rattle.std.specs.Prelude.{◌≡◌, ℕ, Bool, true, false, option_map, Option, None, Some}
use Rattle.domain_spec.specs.declared.open.OpenJob.{OpenJob}
use Rattle.domain_spec.specs.declared.standing.Standing.{Standing}
use Rattle.domain_spec.specs.Cell.{LentEars, standing_of}
use Rattle.core_steps.specs.Turning.{Turning}
use Rattle.domain_core.specs.Linked.{IsWholeBut, Linked, boot_of}
use Rattle.core_step_laws.specs.Made.{Agrees, made_boot, makes}

-- the boot whose monitor is out after a turn: with a ticket that of the guest that is there goes out
abbrev pub out_by : Bool → Option ℕ → Option ℕ → Option ℕ
out_by true made out = made
out_by false made out = out

-- the boot of ears that are out
abbrev pub boot_heard : Option LentEars → Option ℕ
boot_heard ears = option_map (λ e. e.boot) ears

-- a call is open
abbrev pub IsOpen : Option OpenJob → Type 0
IsOpen None = ⊥
IsOpen (Some j) = Unit {0}

-- a monitor is out for an open call alone, and its guest has been made
abbrev pub IsOutWith : Standing → Option ℕ → Type 0
IsOutWith s None = Unit {0}
IsOutWith s (Some boot) = IsOpen s.job × (makes s.operation ≡ false)

-- the link is here of the guest that is there, and of no other
pub record IsLinked (t : Turning) (out : Option ℕ) (link : Option Linked) : Type 0 where
  pub agrees : Agrees (standing_of t.cell)
  pub made : boot_of link ≡ made_boot (standing_of t.cell)
  pub whole : IsWholeBut out (boot_heard t.cell.ears) link
  pub out_with : IsOutWith (standing_of t.cell) out
