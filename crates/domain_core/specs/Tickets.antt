-- What the turns of a cell answer, and the tickets that they hand out.
use Rattle.std.specs.Prelude.{◌≡◌, ◌≤◌, ℕ, is_some, Bool, true, false, option_map, Option, None, Some}
use Rattle.domain_spec.specs.Types.{Answer, Ask, EndReason}
use Rattle.domain_spec.specs.Types.answer
use Rattle.domain_spec.specs.Types.ask
use Rattle.domain_spec.specs.Types.reason
use Rattle.domain_spec.specs.Asks.{is_ended_answer, is_lost_answer, is_ok_answer}
use Rattle.domain_spec.specs.Cell.{Cell, standing_of}
use Rattle.domain_spec.specs.Lawful.{IsUnsent}
use Rattle.domain_spec.specs.declared.open.OpenOperation.{OpenOperation}
use Rattle.domain_core.specs.Leading.{Leads, step_of}
use Rattle.core_steps.specs.OfLedger.back_variants as core_back
use Rattle.core_steps.specs.OfLedger.{Back as CoreBack}
use Rattle.core_steps.specs.declared.looking.Looked.{Looked}
use Rattle.core_steps.specs.declared.looking.Looked.TheVariants as core_look
use Rattle.core_steps.specs.declared.phasing.PhaseLook.{PhaseLook as CorePhase}
use Rattle.core_steps.specs.declared.phasing.PhaseLook.TheVariants as core_phase
use Rattle.domain_core.specs.declared.ticket.Back.{Back}
use Rattle.domain_core.specs.declared.ticket.Back.TheVariants as back
use Rattle.domain_core.specs.declared.ticket.Look.{Look}
use Rattle.domain_core.specs.declared.ticket.Look.TheVariants as look
use Rattle.domain_core.specs.declared.ticket.PhaseLook.{PhaseLook}
use Rattle.domain_core.specs.declared.ticket.PhaseLook.TheVariants as phase
use Rattle.domain_core.specs.declared.ticket.Ticket.{Ticket}
use Rattle.core_step_laws.specs.Made.{AsksThis}
use Rattle.domain_core.specs.Linked.{Linked, ears_in, monitor_in}
use Rattle.monitor_link.specs.Views.{IsLinkTo, LinkView, ears_view, guest_of, monitor_view}
use Rattle.monitor_link.specs.declared.link.Ears as ears
use Rattle.monitor_link.specs.declared.link.Monitor as monitor

module _ {G M E Z : Type 0} where
  -- the same without tickets
  abbrev pub looked_of : Look G M E Z → Looked
  looked_of (look.Done r) = core_look.Done r
  looked_of (look.Away t x) = core_look.Away x
  looked_of (look.Excluded held boot looks) = core_look.Excluded held boot looks
  looked_of (look.WaitersFull waiting) = core_look.WaitersFull waiting
  looked_of look.NoMemory = core_look.NoMemory

  abbrev pub phased_of : PhaseLook G M E Z → CorePhase
  phased_of (phase.Away t x) = core_phase.Away x
  phased_of (phase.Phased said) = core_phase.Phased (step_of said)
  phased_of phase.Excluded = core_phase.Excluded
  phased_of phase.NoMemory = core_phase.NoMemory

  abbrev pub back_of : Back G M E Z → CoreBack
  back_of (back.Done r) = core_back.Done r
  back_of (back.Away t x) = core_back.Away x
  back_of (back.Phased said) = core_back.Phased (step_of said)

  -- what a phase led to is told so, over the operation as it is
  abbrev pub LeadsOn : Option OpenOperation → PhaseLook G M E Z → Type 0
  LeadsOn o (phase.Phased said) = Leads o (step_of said) said
  LeadsOn o other = Unit {0}

  abbrev pub LeadsBack : Option OpenOperation → Back G M E Z → Type 0
  LeadsBack o (back.Phased said) = Leads o (step_of said) said
  LeadsBack o other = Unit {0}

  -- the ticket that a turn hands out
  abbrev pub look_ticket : Look G M E Z → Option (Ticket G M E Z)
  look_ticket (look.Away t x) = Some t
  look_ticket other = None

  abbrev pub phase_ticket : PhaseLook G M E Z → Option (Ticket G M E Z)
  phase_ticket (phase.Away t x) = Some t
  phase_ticket other = None

  abbrev pub back_ticket : Back G M E Z → Option (Ticket G M E Z)
  back_ticket (back.Away t x) = Some t
  back_ticket other = None

  -- a ticket that goes out has a monitor or not
  abbrev pub HasMonitor : Bool → Option (Ticket G M E Z) → Type 0
  HasMonitor has None = Unit {0}
  HasMonitor has (Some t) = is_some t.monitor ≡ has

  -- it is the monitor of this link
  abbrev pub HandsMonitor : monitor.Ghosts M → Option Linked → Option (Ticket G M E Z) → Type 0
  HandsMonitor g link None = Unit {0}
  HandsMonitor g link (Some t) = option_map (monitor_view g) t.monitor ≡ monitor_in link

-- ears that are lent are those of this link
abbrev pub HandsEars : {E : Type 0} → ears.Ghosts E → Option Linked → Option (ℕ × E) → Type 0
HandsEars g link None = Unit {0}
HandsEars g link (Some lent) = Some (ears_view g lent.1) ≡ ears_in link

-- a guest has ended, or the link to it was lost, only where its monitor counted that
abbrev pub IsCounted : {M : Type 0} → (M → ℕ) → (M → ℕ) → Option M → Answer → Type 0
IsCounted ends faults (Some m) (answer.Ended why) = 1 ≤ ends m
IsCounted ends faults (Some m) answer.Lost = 1 ≤ faults m
IsCounted ends faults monitor other = Unit {0}

-- the same of what ears heard of an end
abbrev pub IsHeardCounted : ℕ → ℕ → EndReason → Type 0
IsHeardCounted ends faults reason.Lost = 1 ≤ faults
IsHeardCounted ends faults other = 1 ≤ ends

-- the boot of ears that are handed out
abbrev pub lent_boot : {E : Type 0} → Option (ℕ × E) → Option ℕ
lent_boot None = None
lent_boot (Some lent) = Some lent.0

-- an ask may be answered so: without a monitor a command is not sent
abbrev pub IsAnsweredAs : Bool → Ask → Answer → Type 0
IsAnsweredAs true (ask.Command c) x = Unit {0}
IsAnsweredAs false (ask.Command c) x = IsUnsent x
IsAnsweredAs sent (ask.Make def boot) x = is_ended_answer x ≡ false
IsAnsweredAs sent other x = (is_ended_answer x ≡ false) × (is_lost_answer x ≡ false)

-- the link comes with the answer that its guest was made, and with no other
abbrev pub comes : Ask → Bool → Bool
comes (ask.Make def boot) done = done
comes other done = false

-- what the open call asked last is answered so, by a monitor or not, and with a link or not
pub record IsAnswered (c : Cell) (sent : Bool) (x : Answer) (linked : Bool) : Type 0 where
  pub last : Ask
  pub asks : AsksThis c (standing_of c).job last
  pub answered : IsAnsweredAs sent last x
  pub link : linked ≡ comes last (is_ok_answer x)

-- a link that was made is that of the guest that was asked for, to which nothing was done yet
abbrev pub IsLinkAsked : Ask → Option LinkView → Type 0
IsLinkAsked (ask.Make def boot) (Some l) = IsLinkTo (guest_of def boot) l
IsLinkAsked other made = Unit {0}

-- what the open call asked last is that
pub record IsMadeAsAsked (c : Cell) (made : Option LinkView) : Type 0 where
  pub last : Ask
  pub asks : AsksThis c (standing_of c).job last
  pub is_its : IsLinkAsked last made
