-- Who answers an ask, and how.
use Rattle.std.specs.Prelude.{◌≡◌, ◌⊎◌, ◌≤◌, ℕ, Bool, true, false, IfErr, IfOk, Option, None, Some, Result, Ok, Err}
use Rattle.virt_types.specs.Below.types_base.declared.memory.Fault.{Fault}
use Rattle.virt_types.specs.Below.types_base.declared.memory.Fault.TheVariants as fault
use Rattle.domain_spec.specs.Types.{Answer, Ask, DomainDef}
use Rattle.domain_spec.specs.Types.answer
use Rattle.domain_spec.specs.Types.ask
use Rattle.domain_spec.specs.Types.given
use Rattle.files_disk.specs.Telling.{Told}
use Rattle.monitor_link.specs.declared.guests.Link.{Link}
use Rattle.monitor_link.specs.Causes.{IsFaultCaused}
use Rattle.monitor_link.specs.Exchanges.{HasNoExchange}
use Rattle.monitor_link.specs.Views.{IsLinkTo, guest_of, link_view}
use Rattle.monitor_link.specs.declared.link.Ears as ears
use Rattle.monitor_link.specs.declared.link.Killer as killer
use Rattle.monitor_link.specs.declared.link.Monitor as monitor
use Rattle.store_asks.specs.Turning.{HasAsked}
use Rattle.row_desk.specs.Views.{StorePass}

-- a guest that could not be made was lost; but where there is one, that is answered as that there is no memory
abbrev pub unmade : Fault → Bool → Answer
unmade fault.Failed false = answer.Lost
unmade fault.Failed true = answer.NoMemory
unmade fault.NoMemory is_there = answer.NoMemory

module _ {G M E Z : Type 0} where
  -- what is answered of a guest that was to be made
  abbrev pub made_answer : Bool → Result (Link G M E Z) Fault → Answer
  made_answer is_there (Ok link) = answer.Ok given.Nothing
  made_answer is_there (Err f) = unmade f is_there

  -- and its link
  abbrev pub link_of : Result (Link G M E Z) Fault → Option (Link G M E Z)
  link_of (Ok link) = Some link
  link_of (Err f) = None

module _ {G M E Z : Type 0} (m : monitor.Ghosts M) (e : ears.Ghosts E) (z : killer.Ghosts Z) where
  -- the guest of this definition and boot was made, with a monitor that was sent nothing yet; or it could not be made, which
  -- was counted
  pub record IsMade (d : DomainDef) (boot : ℕ) (is_there : Bool) (before now : ℕ) (a : Answer) (link : Option (Link G M E Z)) : Type 0 where
    pub made : Result (Link G M E Z) Fault
    pub answer_is : a ≡ made_answer is_there made
    pub link_is : link ≡ link_of made
    pub counts : before ≤ now
    pub cause : IfErr made (λ f. IsFaultCaused f before now)
    pub guest : IfOk made (λ l. IsLinkTo (guest_of d boot) (link_view m e z l))
    pub fresh : IfOk made (λ l. HasNoExchange (m.exchanges l.monitor))

  -- guests are made by the maker, and nothing else is
  abbrev pub AsksMaker : (G → ℕ) → Ask → Bool → G → G → Answer → Option (Link G M E Z) → Type 0
  AsksMaker faults (ask.Make d boot) is_there old new a link = IsMade d boot is_there (faults old) (faults new) a link
  AsksMaker faults other is_there old new a link = (new ≡ old) × (link ≡ None)

-- what the store is asked, though it keeps no mark of a lease
abbrev pub IsForStore : Ask → Type 0
IsForStore (ask.Command c) = ⊥
IsForStore (ask.Make d boot) = ⊥
IsForStore other = Unit {0}

module _ {F : Type 0} (told : F → Told) (faults : F → ℕ) where
  -- the store answered in a turn; or no ticket was left, which is answered as that there is no memory
  abbrev pub IsAnsweredByStore : Ask → StorePass → StorePass → Answer → Type 0
  IsAnsweredByStore asked before after a = HasAsked told faults asked (Some a) before after ⊎ ((a ≡ answer.NoMemory) × (after ≡ record before { spent = true }))

  -- the rest goes to the store
  abbrev pub AsksStore : Ask → StorePass → StorePass → Answer → Type 0
  AsksStore (ask.Command c) before after a = after ≡ before
  AsksStore (ask.Make d boot) before after a = after ≡ before
  AsksStore asked before after a = IsAnsweredByStore asked before after a
