-- Values at a path of a definition text: each is read, or the first fault in the order of a table is told.
use Rattle.std.specs.Prelude.{◌≡◌, ℕ, List, Option, Some, None, Result, Ok, Err}
use Rattle.text_spec.specs.declared.definition.DefFault.{DefFault}
use Rattle.text_spec.specs.declared.definition.DefKind.{DefKind}
use Rattle.text_spec.specs.declared.definition.DefKind.TheVariants as kind
use Rattle.types_base.specs.declared.memory.OrNoMemory.{OrNoMemory}
use Rattle.types_base.specs.declared.memory.OrNoMemory.TheVariants.{Fault, NoMemory}

abbrev pub fault_at : List ℕ → DefKind → DefFault
fault_at path k = record { path = path; kind = k }

-- the fault is the one of this kind at this path, unless there was no memory
abbrev pub IsFaultAt : List ℕ → DefKind → OrNoMemory DefFault → Type 0
IsFaultAt path k (Fault fault) = fault ≡ fault_at path k
IsFaultAt path k NoMemory = Unit {0}

-- a value, or what is wrong with it at this path
abbrev pub at : {A : Type 0} → List ℕ → Result A DefKind → Result A DefFault
at path (Ok value) = Ok value
at path (Err k) = Err (fault_at path k)

-- the value of what has to be there
abbrev pub needed : {A X : Type 0} → List ℕ → (X → Result A DefKind) → Option X → Result A DefFault
needed path value None = Err (fault_at path kind.Missing)
needed path value (Some x) = at path (value x)

abbrev pub present : {A : Type 0} → Result A DefFault → Result (Option A) DefFault
present (Ok value) = Ok (Some value)
present (Err fault) = Err fault

-- the value of what may be absent
abbrev pub optional : {A X : Type 0} → List ℕ → (X → Result A DefKind) → Option X → Result (Option A) DefFault
optional path value None = Ok None
optional path value (Some x) = present (at path (value x))

-- what is read next, where nothing was wrong before
abbrev pub then_read : {A B : Type 0} → Result A DefFault → (A → Result B DefFault) → Result B DefFault
then_read (Ok value) next = next value
then_read (Err fault) next = Err fault
