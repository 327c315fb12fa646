-- How the files of a directory are taken in, one after another, when a store is opened.
use Rattle.std.specs.Prelude.{◌≡◌, ◌⊎◌, ◌<◌, ◌++◌, List, [], ◌∷◌, ℕ, Option, None, Some, Result, Err, get_or, length, take}
use Rattle.outside_spec.specs.Faults.{Rose}
use Rattle.virt_types.specs.Below.types_base.declared.memory.OrNoMemory.{OrNoMemory}
use Rattle.virt_types.specs.Below.types_base.declared.memory.OrNoMemory.TheVariants as or
use Rattle.files_disk.specs.Telling.{Told}
use Rattle.store_spec.specs.declared.change.Change.TheVariants as change
use Rattle.store_spec.specs.declared.entry.Entry.{Entry}
use Rattle.store_spec.specs.declared.kind.BookKind.{BookKind}
use Rattle.store_spec.specs.declared.version.Version.{Version}
use Rattle.store_spec.specs.Changes.{Definitions, changed}
use Rattle.store_spec.specs.DefinitionFile.{IsDefinitionFile}
use Rattle.store_spec.specs.Directory.{Directory, directory}
use Rattle.store_spec.specs.FileNames.{IsDefinitionName, IsUuid, definition_name}
use Rattle.def_keeper.specs.declared.outcome.FoundDefinition.{FoundDefinition}
use Rattle.def_keeper.specs.declared.outcome.OpenFault.{OpenFault}
use Rattle.def_keeper.specs.declared.outcome.OpenFault.TheVariants as fault
use Rattle.def_map.specs.Map.{IsFree}
use Rattle.def_keeper.specs.Opening.{HasFound, IsNoDefinition}

-- another object of the kind has the name
pub record HasOther (k : BookKind) (uuid name : List ℕ) (map : Definitions) (other : List ℕ) : Type 0 where
  pub entry : Entry
  pub kept : map k other ≡ Some entry
  pub same_name : entry.name ≡ name
  pub apart : other ≡ uuid → ⊥

-- the object of another identifier that has the name, if there is one
abbrev pub IsOtherOf : BookKind → List ℕ → List ℕ → Definitions → Option (List ℕ) → Type 0
IsOtherOf k uuid name map None = IsFree k uuid name map
IsOtherOf k uuid name map (Some other) = HasOther k uuid name map other

-- a name is that of two objects
abbrev pub IsTwice : BookKind → List ℕ → List ℕ → Definitions → OrNoMemory OpenFault → Type 0
IsTwice k uuid name map (or.Fault (fault.TwoOfOneName l one two)) = (l ≡ k) × (two ≡ uuid) × HasOther k uuid name map one
IsTwice k uuid name map (or.Fault other) = ⊥
IsTwice k uuid name map or.NoMemory = Unit {0}

-- the file of this name is no definition
abbrev pub IsNoneFault : List ℕ → OrNoMemory OpenFault → Type 0
IsNoneFault name (or.Fault (fault.NotADefinition file)) = file ≡ name
IsNoneFault name (or.Fault other) = ⊥
IsNoneFault name or.NoMemory = Unit {0}

-- a file was taken in: it is a definition, and the map has it now
pub record Takes (name bytes : List ℕ) (old new : Definitions) (rows_before rows : List FoundDefinition) : Type 0 where
  pub kind : BookKind
  pub uuid : List ℕ
  pub version : Version
  pub entry : Entry
  pub is_uuid : IsUuid uuid
  pub named : name ≡ definition_name kind uuid
  pub file : IsDefinitionFile version entry bytes
  pub map : (k : BookKind) (u : List ℕ) → new k u ≡ changed (change.Put kind uuid entry) old k u
  pub row : rows ≡ rows_before ++ record { kind = kind; uuid = uuid; version = version } ∷ []

-- a file is the second of a name
pub record IsSecond (name bytes : List ℕ) (map : Definitions) (k : BookKind) (one two : List ℕ) : Type 0 where
  pub version : Version
  pub entry : Entry
  pub named : name ≡ definition_name k two
  pub file : IsDefinitionFile version entry bytes
  pub other : HasOther k two entry.name map one

-- what is wrong with a file
abbrev pub IsWrong : List ℕ → List ℕ → Definitions → OrNoMemory OpenFault → Type 0
IsWrong name bytes map (or.Fault fault.Device) = ⊥
IsWrong name bytes map (or.Fault (fault.NotADefinition file)) = (file ≡ name) × IsNoDefinition name bytes
IsWrong name bytes map (or.Fault (fault.TwoOfOneName k one two)) = IsSecond name bytes map k one two
IsWrong name bytes map or.NoMemory = Unit {0}

-- neither map nor rows change
abbrev pub Passes : Definitions → Definitions → List FoundDefinition → List FoundDefinition → Type 0
Passes old new rows_before rows = ((k : BookKind) (u : List ℕ) → new k u ≡ old k u) × (rows ≡ rows_before)

-- a file of this name was taken in, or is no definition's, or is absent
abbrev pub FindsIn : Directory → List ℕ → Definitions → Definitions → List FoundDefinition → List FoundDefinition → Type 0
FindsIn d name old new rows_before rows =
    (((IsDefinitionName name → ⊥) ⊎ (d name ≡ None)) × Passes old new rows_before rows)
    ⊎ ((bytes : List ℕ) × (d name ≡ Some bytes) × Takes name bytes old new rows_before rows)

-- the same of a store that tells its operations
abbrev pub Finds : Told → List ℕ → Definitions → Definitions → List FoundDefinition → List FoundDefinition → Type 0
Finds None name old new rows_before rows = Unit {0}
Finds (Some os) name old new rows_before rows = FindsIn (directory os) name old new rows_before rows

-- what is wrong with the file of this name, as it is told
abbrev pub IsWrongAt : Told → List ℕ → Definitions → OrNoMemory OpenFault → Type 0
IsWrongAt None name map f = Unit {0}
IsWrongAt (Some os) name map or.NoMemory = Unit {0}
IsWrongAt (Some os) name map (or.Fault fault.Device) = Unit {0}
IsWrongAt (Some os) name map f = IsDefinitionName name × ((bytes : List ℕ) × (directory os name ≡ Some bytes) × IsWrong name bytes map f)

-- a fault of the store was counted
abbrev pub HasDeviceFault : {A : Type 0} → ℕ → ℕ → Result A (OrNoMemory OpenFault) → Type 0
HasDeviceFault before now (Err (or.Fault fault.Device)) = Rose before now
HasDeviceFault before now other = Unit {0}

-- the definitions of the files with these names, as they are told
abbrev pub HasFoundAt : Told → List (List ℕ) → Definitions → List FoundDefinition → Type 0
HasFoundAt None names map rows = Unit {0}
HasFoundAt (Some os) names map rows = HasFound names (directory os) map rows

-- after the first names one comes that is wrong
pub record IsFirstIn (told : Told) (names : List (List ℕ)) (f : OrNoMemory OpenFault) : Type 0 where
  pub map : Definitions
  pub rows : List FoundDefinition
  pub at : ℕ
  pub name : List ℕ
  pub within : at < length names
  pub next : get_or names at name ≡ name
  pub before : HasFoundAt told (take at names) map rows
  pub wrong : IsWrongAt told name map f

-- the first fault among the files with these names
abbrev pub IsFirstOf : Told → List (List ℕ) → OrNoMemory OpenFault → Type 0
IsFirstOf told names f = IsFirstIn told names f
