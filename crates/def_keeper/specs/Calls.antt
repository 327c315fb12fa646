-- What a change may be, and what a call of a store answers.
use Rattle.std.specs.Prelude.{◌≡◌, ◌⊎◌, ◌≤◌, false, ℕ, List, [], ◌∷◌, length, Option, None, Some, Result, Ok, Err}
use Rattle.virt_types.specs.Limits.{most_text_bytes}
use Rattle.outside_spec.specs.Faults.{Rose}
use Rattle.virt_types.specs.Below.types_base.declared.memory.Fault.{Fault}
use Rattle.virt_types.specs.Below.types_base.declared.memory.Fault.TheVariants as fault
use Rattle.virt_types.specs.Below.types_base.declared.memory.OrNoMemory.{OrNoMemory}
use Rattle.virt_types.specs.Below.types_base.declared.memory.OrNoMemory.TheVariants as or
use Rattle.store_spec.specs.declared.change.Change.{Change}
use Rattle.store_spec.specs.declared.change.Change.TheVariants as change
use Rattle.store_spec.specs.declared.entry.Entry.{Entry}
use Rattle.store_spec.specs.declared.kind.BookKind.{BookKind}
use Rattle.store_spec.specs.declared.version.Version.TheVariants as version
use Rattle.store_spec.specs.Changes.{Definitions, entry_of, kind_of, uuid_of}
use Rattle.store_spec.specs.DefinitionFile.{IsEntryOf, has_feed}
use Rattle.def_keeper.specs.declared.mark.DefKey.{DefKey}
use Rattle.def_keeper.specs.declared.mark.StoreAction.TheVariants as action
use Rattle.def_keeper.specs.declared.mark.StoreFault.{StoreFault}
use Rattle.def_keeper.specs.declared.mark.StoreFault.TheVariants as store
use Rattle.def_keeper.specs.declared.mark.StoreMark.{StoreMark}
use Rattle.def_keeper.specs.Chapters.{Leaves, Settles, by, with_marks}
use Rattle.def_map.specs.Map.{IsFree}
use Rattle.def_keeper.specs.Marks.{StoreHistory}

-- a title in one line, and a text within the limit
pub record CanBePut (e : Entry) : Type 0 where
  pub title : has_feed e.title ≡ false
  pub text : length e.text ≤ most_text_bytes

-- a change that may be asked for
abbrev pub CanBeMade : Change → Type 0
CanBeMade (change.Put k uuid e) = CanBePut e
CanBeMade (change.Drop k uuid) = Unit {0}

-- each entry is one that a file may hold
abbrev pub AllGood : Definitions → Type 0
AllGood map = (k : BookKind) (uuid : List ℕ) (e : Entry) → map k uuid ≡ Some e → IsEntryOf version.Two e

-- another object of the kind has the name of what is put
abbrev pub IsTaken : Change → List ℕ → Definitions → Type 0
IsTaken (change.Put k uuid e) other map = (f : Entry) × (map k other ≡ Some f) × (f.name ≡ e.name) × (other ≡ uuid → ⊥)
IsTaken (change.Drop k uuid) other map = ⊥

-- no other object has it
abbrev pub IsFreeFor : Change → Definitions → Type 0
IsFreeFor (change.Put k uuid e) map = IsFree k uuid e.name map
IsFreeFor (change.Drop k uuid) map = Unit {0}

-- who else has the name, if anybody
abbrev pub IsTakenBy : Change → Definitions → Option (List ℕ) → Type 0
IsTakenBy c map None = IsFreeFor c map
IsTakenBy c map (Some other) = IsTaken c other map

-- the change leaves what the map has
pub record IsSettling (key : DefKey) (map : Definitions) (c : Change) : Type 0 where
  pub kind : kind_of c ≡ key.kind
  pub uuid : uuid_of c ≡ key.uuid
  pub entry : entry_of c ≡ map key.kind key.uuid

-- what was in doubt was settled, or was to be; without memory nothing was tried
abbrev pub HasSettled : ℕ → Option DefKey → Definitions → StoreHistory → StoreHistory → Result (Unit {0}) Fault → Type 0
HasSettled number doubt map old new (Ok done) = (first : List StoreMark) × Settles number doubt map first × (new ≡ with_marks first old)
HasSettled number doubt map old new (Err fault.Failed) = (first : List StoreMark) × Settles number doubt map first × (new ≡ with_marks first old)
HasSettled number doubt map old new (Err fault.NoMemory) = new ≡ old

-- a change was made, or failed; without memory it was not tried
abbrev pub HasMade : ℕ → Change → ℕ → StoreHistory → StoreHistory → Result (Unit {0}) Fault → Type 0
HasMade number c moment old new (Ok done) = new ≡ with_marks (by number (action.Changed c (Ok tt) moment) ∷ []) old
HasMade number c moment old new (Err fault.Failed) = new ≡ with_marks (by number (action.Tried c) ∷ by number (action.Changed c (Err store.Device) moment) ∷ []) old
HasMade number c moment old new (Err fault.NoMemory) = new ≡ old

-- what is in doubt after it
abbrev pub doubt_after : Change → Result (Unit {0}) Fault → Option DefKey
doubt_after c (Ok done) = None
doubt_after c (Err fault.Failed) = Some (record { kind = kind_of c; uuid = uuid_of c })
doubt_after c (Err fault.NoMemory) = None

-- a call left these marks
abbrev pub HasLeft : ℕ → Change → Option DefKey → Definitions → ℕ → StoreHistory → StoreHistory → {A : Type 0} → Result A (OrNoMemory StoreFault) → Type 0
HasLeft number c doubt map moment old new result = (more : List StoreMark) × Leaves number c doubt map moment result more × (new ≡ with_marks more old)

-- a name is refused exactly where another object of the kind has it
abbrev pub Refuses : {A : Type 0} → Change → Definitions → Result A (OrNoMemory StoreFault) → Type 0
Refuses c map (Ok a) = IsFreeFor c map
Refuses c map (Err (or.Fault store.Device)) = IsFreeFor c map
Refuses c map (Err (or.Fault (store.NameKept one two))) = IsTaken c one map × (two ≡ uuid_of c)
Refuses c map (Err or.NoMemory) = Unit {0}

-- where a name is refused, the files are as they were
abbrev pub IsQuiet : {A F : Type 0} → F → F → Result A (OrNoMemory StoreFault) → Type 0
IsQuiet old new (Err (or.Fault (store.NameKept one two))) = new ≡ old
IsQuiet old new other = Unit {0}

-- a fault of the store was counted in this call
abbrev pub HasDevice : {A : Type 0} → ℕ → ℕ → Result A (OrNoMemory StoreFault) → Type 0
HasDevice before now (Err (or.Fault store.Device)) = Rose before now
HasDevice before now other = Unit {0}

-- what is in doubt after a call: after Ok nothing is; after a fault the change, or what was in doubt
abbrev pub IsDoubtAfter : {A : Type 0} → Change → Option DefKey → Option DefKey → Result A (OrNoMemory StoreFault) → Type 0
IsDoubtAfter c old new (Ok a) = new ≡ None
IsDoubtAfter c old new (Err (or.Fault store.Device)) = (new ≡ old) ⊎ (new ≡ Some (record { kind = kind_of c; uuid = uuid_of c }))
IsDoubtAfter c old new (Err (or.Fault (store.NameKept one two))) = new ≡ old
IsDoubtAfter c old new (Err or.NoMemory) = (new ≡ old) ⊎ (new ≡ None)

-- what a change whose name is free answers
abbrev pub as_answer : Result (Unit {0}) Fault → Result (Unit {0}) (OrNoMemory StoreFault)
as_answer (Ok done) = Ok done
as_answer (Err fault.Failed) = Err (or.Fault store.Device)
as_answer (Err fault.NoMemory) = Err or.NoMemory
