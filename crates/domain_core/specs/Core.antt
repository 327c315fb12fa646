-- A domain between two turns, with the refusal that is set aside, and what holds then.
use Rattle.std.specs.Prelude.{◌≡◌, ◌≤◌, ◌+◌, ℕ, List, length, Bool, false, not, ◌||◌, Option, None, Some, option_map}
use Rattle.domain_spec.specs.Types.{Call, DomainDef, Who}
use Rattle.domain_spec.specs.declared.mark.HeldOperation.{HeldOperation}
use Rattle.domain_spec.specs.declared.standing.Standing.{Standing}
use Rattle.domain_spec.specs.Cell.{HeldEvent, LentEars, Queue}
use Rattle.domain_spec.specs.Open.{operation_held}
use Rattle.domain_spec.specs.TakeUp.{is_vacant}
use Rattle.core_steps.specs.OfRecord.{Recorded}
use Rattle.core_steps.specs.Refusing.{IsSetAside}
use Rattle.core_steps.specs.Rooms.{HasEnd, IsKept, rooms_lent}
use Rattle.core_steps.specs.Turning.{Turning, new_turning, turning}
use Rattle.core_steps.specs.declared.looking.Looked.{Looked}
use Rattle.core_steps.specs.declared.looking.Looked.TheVariants as looked
use Rattle.core_steps.specs.declared.refusing.Refusable.{Refusable}
use Rattle.core_steps.specs.declared.beginning.OperationLook.{OperationLook}
use Rattle.core_steps.specs.declared.beginning.OperationLook.TheVariants as operation

-- a call that was excluded
pub record Excluded : Type 0 where
  pub who : Who
  pub call : Call

-- a domain, and the call that the turn before found excluded, where it did
pub record Core : Type 0 where
  pub turning : Turning
  pub excluded : Option Excluded

-- whose refusal is set aside
abbrev pub named : Refusable → Excluded
named x = record { who = x.who; call = x.call }

-- the domain with these parts
abbrev pub core_of : Recorded → Queue → List HeldEvent → Option LentEars → Option Refusable → Core
core_of r q held ears x = record { turning = turning r q held ears; excluded = option_map named x }

-- the same, of which these ears are out
abbrev pub with_ears : Turning → Option LentEars → Turning
with_ears t ears = record t { cell = record t.cell { ears = ears } }

-- the ears that are out are this number's, and of this boot
abbrev pub HasOut : ℕ → ℕ → Option LentEars → Type 0
HasOut n boot None = ⊥
HasOut n boot (Some ears) = (ears.number ≡ n) × (ears.boot ≡ boot)

-- a domain as the store was opened: nobody waits or is registered
abbrev pub new_core : Option DomainDef → Bool → Core
new_core stored autostart = record { turning = new_turning stored autostart; excluded = None }

-- a look that finds its call excluded leaves that, and any other nothing
abbrev pub excluded_by : Who → Call → Looked → Option Excluded
excluded_by who c (looked.Excluded held boot looks) = Some (record { who = who; call = c })
excluded_by who c other = None

-- the same of a call that begins an operation, or takes one up
abbrev pub excluded_so : Who → Call → OperationLook → Option Excluded
excluded_so who c (operation.Excluded held boot looks) = Some (record { who = who; call = c })
excluded_so who c other = None

-- what holds between two turns: all is there that later turns need, so that they take no memory
pub record IsWhole (r : Recorded) (q : Queue) (held : List HeldEvent) (ears : Option LentEars) (x : Option Refusable) (rooms capacity : ℕ) : Type 0 where
  pub kept : IsKept r held ears rooms
  pub ends : HasEnd r rooms
  pub places : length held + rooms_lent ears ≤ capacity
  pub set_aside : IsSetAside r q rooms x

-- an operation rests
abbrev pub does_rest : Option HeldOperation → Bool
does_rest None = false
does_rest (Some op) = op.rests

-- a cell is occupied that has a domain, or in which an operation rests
abbrev pub is_occupied : Standing → Bool
is_occupied s = not (is_vacant s.state) || does_rest (operation_held s.operation)
