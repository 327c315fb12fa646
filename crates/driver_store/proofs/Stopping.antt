-- Why a store that isn't read, or not renewed, is not opened.
use Rattle.std.proofs.Common.{◌≡◌, ◌≤◌, ℕ, arith}
use Rattle.virt_types.specs.Below.types_base.declared.memory.OrNoMemory.{OrNoMemory}
use Rattle.virt_types.specs.Below.types_base.declared.memory.OrNoMemory.TheVariants as or
use Rattle.files_disk.specs.Telling.{Told}
use Rattle.store_spec.specs.declared.change.Change.{Change}
use Rattle.store_spec.specs.Changes.{Definitions}
use Rattle.def_keeper.specs.declared.outcome.Found.{Found}
use Rattle.def_keeper.specs.declared.outcome.OpenFault.{OpenFault}
use Rattle.def_keeper.specs.declared.outcome.OpenFault.TheVariants as opening
use Rattle.def_keeper.specs.Keeper.{Keeping}
use Rattle.def_keeper.specs.Opened as opened
use Rattle.def_keeper.specs.Safe.{KeepsAll}
use Rattle.def_keeper.specs.Tidying.{Tidies}
use Rattle.def_map.specs.Map.{found}
use Rattle.found_domains.specs.declared.found.FoundDomains.{FoundDomains}
use Rattle.found_domains.specs.declared.found.FoundFault.{FoundFault}
use Rattle.found_domains.specs.declared.found.FoundFault.TheVariants as bad
use Rattle.found_domains.specs.Found.{IsFault, fault_in}
use Rattle.driver_store.specs.declared.fault.DriverFault.{DriverFault}
use Rattle.driver_store.specs.declared.fault.DriverFault.TheVariants as fault
use Rattle.driver_store.specs.Again.{IsCauseOf, IsNotPut}
use Rattle.driver_store.specs.Faults.{of_found, of_opening}
use Rattle.driver_store.specs.Reading.{HasRead, IsBegun}
use Rattle.driver_store.specs.Stopped.{IsDevice, IsLeft, IsNotRenewed, IsUnread}

unread_opening : (told : Told) (f : OrNoMemory OpenFault) → opened.IsRefused told f → IsUnread told (of_opening f)
unread_opening told (or.Fault opening.Device) r = tt
unread_opening told (or.Fault (opening.NotADefinition file)) r = r
unread_opening told (or.Fault (opening.TwoOfOneName k one two)) r = r
unread_opening told or.NoMemory r = tt

device_opening : (f : OrNoMemory OpenFault) (before now : ℕ) → opened.IsDevice f before now → IsDevice (of_opening f) before now
device_opening (or.Fault opening.Device) before now d = d
device_opening (or.Fault (opening.NotADefinition file)) before now d = tt
device_opening (or.Fault (opening.TwoOfOneName k one two)) before now d = tt
device_opening or.NoMemory before now d = tt

unread_found : (told now : Told) (m : Definitions) (finds : Found) (f : OrNoMemory FoundFault) → opened.IsOpened told now m finds → IsFault (fault_in m finds.definitions) f → IsUnread told (of_found f)
unread_found told now m finds (or.Fault (bad.BadText file)) o e = record { now = now; map = m; finds = finds; opened = o; first = e }
unread_found told now m finds (or.Fault (bad.TooMany file)) o e = record { now = now; map = m; finds = finds; opened = o; first = e }
unread_found told now m finds or.NoMemory o e = tt

device_found : (f : OrNoMemory FoundFault) (before now : ℕ) → IsDevice (of_found f) before now
device_found (or.Fault (bad.BadText file)) before now = tt
device_found (or.Fault (bad.TooMany file)) before now = tt
device_found or.NoMemory before now = tt

device_later : (c : Change) (m : Definitions) (f : OrNoMemory DriverFault) (start before now : ℕ) → start ≤ before → IsCauseOf c m before now f → IsDevice f start now
device_later c m (or.Fault fault.Device) start before now le cause = omega (arith, le, cause)
device_later c m (or.Fault (fault.NotADefinition file)) start before now le cause = tt
device_later c m (or.Fault (fault.TwoOfOneName k one two)) start before now le cause = tt
device_later c m (or.Fault (fault.BadText file)) start before now le cause = tt
device_later c m (or.Fault (fault.TooMany file)) start before now le cause = tt
device_later c m or.NoMemory start before now le cause = tt

module _ {F : Type 0} (told : F → Told) (faults : F → ℕ) (files back : F) where
  pub left_opening : (f : OrNoMemory OpenFault) → opened.IsRefused (told files) f → opened.IsDevice f (faults files) (faults back) → Tidies (told files) (told back) → IsLeft told faults files (of_opening f) back
  left_opening f refused device tidied = record {
    cause = unread_opening (told files) f refused;
    device = device_opening f (faults files) (faults back) device;
    tidied = tidied;
  }

  pub left_found : (m : Definitions) (finds : Found) (f : OrNoMemory FoundFault) → opened.IsOpened (told files) (told back) m finds → IsFault (fault_in m finds.definitions) f → Tidies (told files) (told back)
      → IsLeft told faults files (of_found f) back
  left_found m finds f is bad tidied = record {
    cause = unread_found (told files) (told back) m finds f is bad;
    device = device_found f (faults files) (faults back);
    tidied = tidied;
  }

  pub not_renewed : (sound : Type 0) (f : OrNoMemory DriverFault) (first last : Keeping F) (finds : Found) (read : FoundDomains) → HasRead (told files) (told first.files) (found first.map) finds read → IsBegun told first
      → IsNotPut faults read.again first last f → faults files ≤ faults first.files → back ≡ last.files → (sound → KeepsAll (told back) last.history) → IsNotRenewed told faults sound files f back
  not_renewed sound f first last finds read was begun cause le is safe = record {
    first = first;
    begun = begun;
    finds = finds;
    read = read;
    was_read = was;
    last = last;
    cause = cause;
    device = device_later cause.next (found cause.between.map) f (faults files) (faults first.files) (faults last.files) le cause.cause;
    back_is = is;
    safe = safe;
  }
