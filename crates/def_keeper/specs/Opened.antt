-- What is known of a store once it was opened.
use Rattle.std.specs.Prelude.{◌≡◌, List, ℕ, Option, None, Some}
use Rattle.outside_spec.specs.Faults.{Rose}
use Rattle.virt_types.specs.Below.types_base.declared.memory.OrNoMemory.{OrNoMemory}
use Rattle.virt_types.specs.Below.types_base.declared.memory.OrNoMemory.TheVariants as or
use Rattle.virt_types.specs.declared.status.Status.{Status}
use Rattle.files_disk.specs.Telling.{Told, more}
use Rattle.store_spec.specs.declared.operation.Operation.{Operation}
use Rattle.store_spec.specs.declared.operation.Operation.TheVariants as op
use Rattle.store_spec.specs.Changes.{Definitions}
use Rattle.store_spec.specs.Directory.{directory, files_after}
use Rattle.store_spec.specs.FileNames.{IsDefinitionName, IsStatusName}
use Rattle.store_spec.specs.Settled.{IsSettled, IsSure}
use Rattle.def_keeper.specs.declared.outcome.Found.{Found}
use Rattle.def_keeper.specs.declared.outcome.OpenFault.{OpenFault}
use Rattle.def_keeper.specs.declared.outcome.OpenFault.TheVariants as fault
use Rattle.def_keeper.specs.Opening.{IsFaultAt, IsWhole}
use Rattle.def_keeper.specs.Tidying.{HasRemovedAt, HasReportedAt, IsReports}

-- each definition's file was synced since it was written
abbrev pub AreSure : List Operation → Type 0
AreSure os = (n : List ℕ) → IsDefinitionName n → IsSure (files_after os n)

-- the store tells its operations, and its definitions' files are synced
abbrev pub IsSureAt : Told → Type 0
IsSureAt told = (os : List Operation) × (told ≡ Some os) × AreSure os

-- the status files with these names are reported and removed, and the directory is synced
abbrev pub HasTidied : Told → List (List ℕ) → List (Option Status) → Told → Type 0
HasTidied told names statuses new = HasReportedAt told names statuses
    × ((removed : Told) × HasRemovedAt told names removed × (new ≡ more removed op.SyncDirectory))

-- an opened directory: its definitions are found and its status files reported, and these are gone now; where the
-- definitions' files were synced, nothing is in doubt
pub record HasOpened (os now : List Operation) (map : Definitions) (f : Found) : Type 0 where
  pub definitions : IsWhole (directory os) map f.definitions
  pub statuses : IsReports (directory os) f.statuses
  pub removed : (n : List ℕ) → IsStatusName n → directory now n ≡ None
  pub settled : AreSure os → IsSettled now map

-- the same of a store that tells its operations
abbrev pub IsOpened : Told → Told → Definitions → Found → Type 0
IsOpened None new map f = Unit {0}
IsOpened (Some os) new map f = (now : List Operation) × (new ≡ Some now) × HasOpened os now map f

-- a refusal is the first fault in the order of the files' names
abbrev pub IsRefused : Told → OrNoMemory OpenFault → Type 0
IsRefused told (or.Fault f) = IsFaultAt told f
IsRefused told or.NoMemory = Unit {0}

-- a fault of the store was counted
abbrev pub IsDevice : OrNoMemory OpenFault → ℕ → ℕ → Type 0
IsDevice (or.Fault fault.Device) before now = Rose before now
IsDevice other before now = Unit {0}
