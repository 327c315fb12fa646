-- Why a driver isn't opened, and what becomes of the files of its store.
use Rattle.std.specs.Prelude.{◌≡◌, ◌⊎◌, ℕ, List}
use Rattle.virt_types.specs.Below.types_base.declared.memory.OrNoMemory.{OrNoMemory}
use Rattle.virt_types.specs.Below.types_base.declared.memory.OrNoMemory.TheVariants as or
use Rattle.files_disk.specs.Telling.{Told}
use Rattle.def_keeper.specs.declared.outcome.Found.{Found}
use Rattle.def_keeper.specs.Keeper.{Keeping}
use Rattle.def_keeper.specs.Safe.{KeepsAll}
use Rattle.driver_store.specs.Below.found_domains.declared.found.FoundDomain.{FoundDomain}
use Rattle.driver_store.specs.declared.fault.DriverFault.{DriverFault}
use Rattle.driver_store.specs.Reading.{HasOpened}
use Rattle.driver_store.specs.Stopped.{IsNotOpened}

-- the store was opened whole, and there was no memory for the cells
pub record IsClosedAgain {F : Type 0} (told : F → Told) (sound : Type 0) (files : F) (f : OrNoMemory DriverFault) (back : F) : Type 0 where
  pub memory : f ≡ or.NoMemory
  pub finds : Found
  pub domains : List FoundDomain
  pub last : Keeping F
  pub opened : HasOpened told files finds domains last
  pub back_is : back ≡ last.files
  pub safe : sound → KeepsAll (told back) last.history

-- the driver isn't opened: its store isn't, or it was closed again
abbrev pub IsUnopened : {F : Type 0} → (F → Told) → (F → ℕ) → Type 0 → F → OrNoMemory DriverFault → F → Type 0
IsUnopened told faults sound files f back = IsNotOpened told faults sound files f back ⊎ IsClosedAgain told sound files f back
