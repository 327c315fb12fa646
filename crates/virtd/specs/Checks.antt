-- What the program does to check the files of a directory.
use Rattle.std.specs.Prelude.{◌≡◌, ◌⊎◌, ℕ, IfOk, IsErrOf, List, Option, Result, Ok, Err}
use Rattle.files_disk.specs.Telling.{Told}
use Rattle.outside_spec.specs.Faults.{Rose}
use Rattle.store_check.specs.Checking.{HasChecked, status}
use Rattle.store_check.specs.declared.checked.Checked.{Checked}
use Rattle.virt_types.specs.Below.types_base.declared.memory.Failed.{Failed}
use Rattle.virt_types.specs.Below.types_base.declared.memory.Fault.{Fault}
use Rattle.virt_types.specs.Below.types_base.declared.memory.Fault.TheVariants as fault
use Rattle.virtd.specs.Outside.{HasNoFiles, Outside, with_closed, with_opened}
use Rattle.virtd.specs.Printing.{Prints, printed}
use Rattle.virtd.specs.declared.connection.Connection.{Connection}

module _ {S K R F : Type 0} (held : K → Option (List ℕ)) (sink_faults : K → ℕ) where
  -- what was found is printed; or nothing was found, and nothing is made
  abbrev pub Reports : Result Checked Fault → Outside (Connection S K R) F → Outside (Connection S K R) F → ℕ → Type 0
  Reports (Ok checked) was is code = (result : Result (Unit {0}) Failed) × Prints held sink_faults checked.text was is result × (code ≡ printed (status (Ok checked)) result)
  Reports (Err why) was is code = (code ≡ status (Err why)) × (is ≡ was)

module _ {F S K R : Type 0} (told : F → Told) (store_faults : F → ℕ) (held : K → Option (List ℕ)) (sink_faults : K → ℕ) where
  -- these files are looked at and given back with nothing changed, and then it is said what they are
  pub record ChecksFiles (files : F) (was is : Outside (Connection S K R) F) (code : ℕ) : Type 0 where
    pub checked : Result Checked Fault
    pub given : F
    pub found : IfOk checked (HasChecked (told files))
    pub same : told given ≡ told files
    pub cause : IsErrOf checked fault.Failed → Rose (store_faults files) (store_faults given)
    pub reports : Reports held sink_faults checked (with_closed given was) is code

  -- exactly the directory with this path is checked
  abbrev pub ChecksDirectory : List ℕ → Outside (Connection S K R) F → Outside (Connection S K R) F → ℕ → Type 0
  ChecksDirectory path was is code = HasNoFiles was is code ⊎ ((files : F) × ChecksFiles files (with_opened path files was) is code)
