-- What writing and removing a status file adds to the operations that a store tells.
use Rattle.std.specs.Prelude.{◌≡◌, ◌⊎◌, ◌≤◌, List, [], ◌∷◌, ℕ, Result, Ok, Err, take}
use Rattle.virt_types.specs.Below.types_base.declared.memory.Fault.{Fault}
use Rattle.virt_types.specs.Below.types_base.declared.memory.Fault.TheVariants as fault
use Rattle.virt_types.specs.declared.status.Status.{Status}
use Rattle.files_disk.specs.Telling.{Told, more}
use Rattle.store_spec.specs.declared.operation.Operation.{Operation}
use Rattle.store_spec.specs.declared.operation.Operation.TheVariants as op
use Rattle.store_spec.specs.FileNames.{status_draft, status_name}
use Rattle.store_spec.specs.StatusFile.{status_bytes}
use Rattle.files_disk.specs.Putting.{HasBegun, all_more}

-- a draft is written, the file of before is removed, and the draft gets its name: over no file, so that nothing has to go
-- to the disk
abbrev pub drafting_of : List ℕ → List ℕ → List ℕ → List Operation
drafting_of draft name content = op.Write draft content ∷ op.Remove name ∷ op.Rename draft name ∷ []

-- all took effect; or the first ones, or the draft got any bytes; or, without memory, none but those before the rename
abbrev pub PutsDraft : List ℕ → List ℕ → List ℕ → Told → Told → Result (Unit {0}) Fault → Type 0
PutsDraft draft name content old new (Ok done) = new ≡ all_more old (drafting_of draft name content)
PutsDraft draft name content old new (Err fault.Failed) = HasBegun (drafting_of draft name content) old new ⊎ ((bytes : List ℕ) × (new ≡ more old (op.Write draft bytes)))
PutsDraft draft name content old new (Err fault.NoMemory) = (n : ℕ) × (n ≤ 2) × (new ≡ all_more old (take n (drafting_of draft name content)))

-- the status file of a boot is written, by its draft
abbrev pub PutsStatus : Status → Told → Told → Result (Unit {0}) Fault → Type 0
PutsStatus s old new result = PutsDraft (status_draft s.uuid) (status_name s.uuid) (status_bytes s) old new result

-- a status file is removed, if there is one
abbrev pub DropsStatus : List ℕ → Told → Told → Result (Unit {0}) Fault → Type 0
DropsStatus uuid old new (Ok done) = new ≡ more old (op.Remove (status_name uuid))
DropsStatus uuid old new (Err fault.Failed) = (new ≡ more old (op.Remove (status_name uuid))) ⊎ (new ≡ old)
DropsStatus uuid old new (Err fault.NoMemory) = new ≡ old
