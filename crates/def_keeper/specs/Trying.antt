-- What the try of a change adds to the operations that a store tells.
use Rattle.std.specs.Prelude.{◌≡◌, ◌⊎◌, ◌≤◌, List, ℕ, Result, Ok, Err, take}
use Rattle.virt_types.specs.Below.types_base.declared.memory.Fault.{Fault}
use Rattle.virt_types.specs.Below.types_base.declared.memory.Fault.TheVariants as fault
use Rattle.files_disk.specs.Putting.{all_more}
use Rattle.files_disk.specs.Telling.{Told, more}
use Rattle.store_spec.specs.declared.change.Change.{Change}
use Rattle.store_spec.specs.declared.change.Change.TheVariants as change
use Rattle.store_spec.specs.declared.operation.Operation.TheVariants as op
use Rattle.store_spec.specs.FileNames.{definition_draft}
use Rattle.store_spec.specs.Steps.{steps_of}

-- how many of a change's operations come before its file gets its name
abbrev pub drafting : Change → ℕ
drafting (change.Put k uuid entry) = 2
drafting (change.Drop k uuid) = 0

-- the draft of a change got any bytes
abbrev pub IsTorn : Change → Told → Told → Type 0
IsTorn (change.Put k uuid entry) old new = (bytes : List ℕ) × (new ≡ more old (op.Write (definition_draft k uuid) bytes))
IsTorn (change.Drop k uuid) old new = ⊥

-- the first of a change's operations took effect, or its draft got any bytes
abbrev pub HasStopped : Change → Told → Told → Type 0
HasStopped c old new = ((n : ℕ) × (new ≡ all_more old (take n (steps_of c)))) ⊎ IsTorn c old new

-- not more than the draft was written
abbrev pub HasDrafted : Change → Told → Told → Type 0
HasDrafted c old new = (n : ℕ) × (n ≤ drafting c) × (new ≡ all_more old (take n (steps_of c)))

-- a change is tried: all its operations took effect; or the first ones; or, without memory, none but those of its draft
abbrev pub Tries : Change → Told → Told → Result (Unit {0}) Fault → Type 0
Tries c old new (Ok done) = new ≡ all_more old (steps_of c)
Tries c old new (Err fault.Failed) = HasStopped c old new
Tries c old new (Err fault.NoMemory) = HasDrafted c old new
