-- What reporting a boot does to the files of the store, where another status, or none, was written before.
use Rattle.std.specs.Prelude.{◌≡◌, ◌≢◌, ◌⊎◌, ◌≤◌, ℕ, List, Option, None, Some, Result, Ok, IsErrOf}
use Rattle.std.specs.Result.{result_and}
use Rattle.outside_spec.specs.Faults.{Rose}
use Rattle.virt_types.specs.Below.types_base.declared.memory.Fault.{Fault}
use Rattle.virt_types.specs.Below.types_base.declared.memory.Fault.TheVariants as fault
use Rattle.virt_types.specs.declared.status.Status.{Status}
use Rattle.files_disk.specs.Telling.{Told}
use Rattle.def_keeper.specs.Boots.{DropsStatus, PutsStatus}
use Rattle.def_keeper.specs.Keeper.{Keeping}

-- the file of another domain is removed and then this one is put, whatever came of that; of two faults the first is answered
pub record Exchanges (uuid : List ℕ) (now : Status) (old new : Told) (result : Result (Unit {0}) Fault) : Type 0 where
  pub between : Told
  pub dropped : Result (Unit {0}) Fault
  pub put : Result (Unit {0}) Fault
  pub drops : DropsStatus uuid old between dropped
  pub puts : PutsStatus now between new put
  pub answer : result ≡ result_and dropped put

-- the file of the same domain is put over the one before
abbrev pub Renews : Status → Status → Told → Told → Result (Unit {0}) Fault → Type 0
Renews was now old new result =
    ((was.uuid ≡ now.uuid) × PutsStatus now old new result)
    ⊎ ((was.uuid ≢ now.uuid) × Exchanges was.uuid now old new result)

-- what is live is written, and what was written before of a boot that has ended is removed
abbrev pub Replaces : Option Status → Option Status → Told → Told → Result (Unit {0}) Fault → Type 0
Replaces None None old new result = (new ≡ old) × (result ≡ Ok tt)
Replaces None (Some now) old new result = PutsStatus now old new result
Replaces (Some was) None old new result = DropsStatus was.uuid old new result
Replaces (Some was) (Some now) old new result = Renews was now old new result

module _ {F : Type 0} (told : F → Told) (faults : F → ℕ) where
  -- so in a store, of which only the files change; it failed only where its count of faults rose
  pub record IsReplaced (before after : Option Status) (found left : Keeping F) (result : Result (Unit {0}) Fault) : Type 0 where
    pub files : Replaces before after (told found.files) (told left.files) result
    pub rest : left ≡ record found { files = left.files }
    pub cause : IsErrOf result fault.Failed → Rose (faults found.files) (faults left.files)
    pub counts : faults found.files ≤ faults left.files
