-- Why the store of a driver isn't opened, and what becomes of its files.
use Rattle.std.specs.Prelude.{◌≡◌, ◌⊎◌, ℕ, Some}
use Rattle.outside_spec.specs.Faults.{Rose}
use Rattle.virt_types.specs.Below.types_base.declared.memory.OrNoMemory.{OrNoMemory}
use Rattle.virt_types.specs.Below.types_base.declared.memory.OrNoMemory.TheVariants as or
use Rattle.files_disk.specs.Telling.{Told}
use Rattle.store_spec.specs.Changes.{Definitions}
use Rattle.def_keeper.specs.declared.outcome.Found.{Found}
use Rattle.def_keeper.specs.declared.outcome.OpenFault.TheVariants as opening
use Rattle.def_keeper.specs.Keeper.{Keeping}
use Rattle.def_keeper.specs.Opened.{IsOpened}
use Rattle.def_keeper.specs.Opening.{IsFaultAt}
use Rattle.def_keeper.specs.Safe.{KeepsAll}
use Rattle.def_keeper.specs.Tidying.{Tidies}
use Rattle.def_map.specs.Map.{found}
use Rattle.found_domains.specs.declared.found.FoundDomains.{FoundDomains}
use Rattle.found_domains.specs.declared.found.FoundFault.{FoundFault}
use Rattle.found_domains.specs.declared.found.FoundFault.TheVariants as bad
use Rattle.found_domains.specs.Found.{fault_in}
use Rattle.driver_store.specs.declared.fault.DriverFault.{DriverFault}
use Rattle.driver_store.specs.declared.fault.DriverFault.TheVariants as fault
use Rattle.driver_store.specs.Again.{IsNotPut}
use Rattle.driver_store.specs.Reading.{HasRead, IsBegun}

-- a directory was opened, and this is the first fault of what it holds
pub record IsUnserved (told : Told) (f : FoundFault) : Type 0 where
  pub now : Told
  pub map : Definitions
  pub finds : Found
  pub opened : IsOpened told now map finds
  pub first : fault_in map finds.definitions ≡ Some f

-- why a directory isn't opened and read: the first fault in the order of its files' names, or else of what they hold
abbrev pub IsUnread : Told → OrNoMemory DriverFault → Type 0
IsUnread told (or.Fault fault.Device) = Unit {0}
IsUnread told (or.Fault (fault.NotADefinition file)) = IsFaultAt told (opening.NotADefinition file)
IsUnread told (or.Fault (fault.TwoOfOneName k one two)) = IsFaultAt told (opening.TwoOfOneName k one two)
IsUnread told (or.Fault (fault.BadText file)) = IsUnserved told (bad.BadText file)
IsUnread told (or.Fault (fault.TooMany file)) = IsUnserved told (bad.TooMany file)
IsUnread told or.NoMemory = Unit {0}

-- a fault of the store was counted
abbrev pub IsDevice : OrNoMemory DriverFault → ℕ → ℕ → Type 0
IsDevice (or.Fault fault.Device) before now = Rose before now
IsDevice other before now = Unit {0}

-- it was not read, and was tidied at most
pub record IsLeft {F : Type 0} (told : F → Told) (faults : F → ℕ) (files : F) (f : OrNoMemory DriverFault) (back : F) : Type 0 where
  pub cause : IsUnread (told files) f
  pub device : IsDevice f (faults files) (faults back)
  pub tidied : Tidies (told files) (told back)

-- it was read, and a file of version 1 could not be put again; a crash leaves the definitions that were read, after the
-- first of the changes
pub record IsNotRenewed {F : Type 0} (told : F → Told) (faults : F → ℕ) (sound : Type 0) (files : F) (f : OrNoMemory DriverFault) (back : F) : Type 0 where
  pub first : Keeping F
  pub begun : IsBegun told first
  pub finds : Found
  pub read : FoundDomains
  pub was_read : HasRead (told files) (told first.files) (found first.map) finds read
  pub last : Keeping F
  pub cause : IsNotPut faults read.again first last f
  pub device : IsDevice f (faults files) (faults last.files)
  pub back_is : back ≡ last.files
  pub safe : sound → KeepsAll (told back) last.history

-- the store isn't opened
abbrev pub IsNotOpened : {F : Type 0} → (F → Told) → (F → ℕ) → Type 0 → F → OrNoMemory DriverFault → F → Type 0
IsNotOpened told faults sound files f back = IsLeft told faults files f back ⊎ IsNotRenewed told faults sound files f back
