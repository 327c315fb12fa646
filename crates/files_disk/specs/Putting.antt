-- What putting and removing a file adds to the operations that a store tells.
use Rattle.std.specs.Prelude.{◌≡◌, ◌⊎◌, ◌≤◌, List, [], ◌∷◌, ℕ, Result, Ok, Err, take}
use Rattle.virt_types.specs.Below.types_base.declared.memory.Fault.{Fault}
use Rattle.virt_types.specs.Below.types_base.declared.memory.Fault.TheVariants as fault
use Rattle.store_spec.specs.declared.operation.Operation.{Operation}
use Rattle.store_spec.specs.declared.operation.Operation.TheVariants as op
use Rattle.files_disk.specs.Telling.{Told, more}

-- what is told after some operations more
abbrev pub all_more : Told → List Operation → Told
all_more told [] = told
all_more told (o ∷ os) = all_more (more told o) os

-- the operations that put a file by a draft, and those that remove one
abbrev pub putting : List ℕ → List ℕ → List ℕ → List Operation
putting draft name content = op.Write draft content ∷ op.Sync draft ∷ op.Rename draft name ∷ op.SyncDirectory ∷ []

abbrev pub removing : List ℕ → List Operation
removing name = op.Remove name ∷ op.SyncDirectory ∷ []

-- the first of some operations took effect, and nothing else
abbrev pub HasBegun : List Operation → Told → Told → Type 0
HasBegun steps old new = (n : ℕ) × (new ≡ all_more old (take n steps))

-- a file was put: all took effect; or the first ones, or the draft got any bytes; or, without memory, at most the draft
abbrev pub PutsFile : List ℕ → List ℕ → List ℕ → Told → Told → Result (Unit {0}) Fault → Type 0
PutsFile draft name content old new (Ok done) = new ≡ all_more old (putting draft name content)
PutsFile draft name content old new (Err fault.Failed) = HasBegun (putting draft name content) old new ⊎ ((bytes : List ℕ) × (new ≡ more old (op.Write draft bytes)))
PutsFile draft name content old new (Err fault.NoMemory) = (n : ℕ) × (n ≤ 2) × (new ≡ all_more old (take n (putting draft name content)))

-- a file was removed: both took effect, or the first ones
abbrev pub RemovesFile : List ℕ → Told → Told → {E : Type 0} → Result (Unit {0}) E → Type 0
RemovesFile name old new (Ok done) = new ≡ all_more old (removing name)
RemovesFile name old new (Err e) = HasBegun (removing name) old new
