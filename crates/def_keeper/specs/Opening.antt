-- What is found in a directory when a store is opened, by the names of its files in order.
use Rattle.std.specs.Prelude.{◌≡◌, ◌<◌, Bool, true, false, List, ℕ, None, Some, All, Contains, bytes_eq, get_or, length, map, take}
use Rattle.std.specs.Cmp.Lexicographic.{slice_cmp}
use Rattle.std.specs.List.{list_any}
use Rattle.std.specs.List.Sorted.{IsSorted, IsStrictlySortedBy}
use Rattle.std.specs.Ordering.{nat_cmp}
use Rattle.std.specs.declared.cmp.Ordering.TheVariants.{Less}
use Rattle.files_disk.specs.Telling.{Lists, Told}
use Rattle.store_spec.specs.declared.entry.Entry.{Entry}
use Rattle.store_spec.specs.declared.kind.BookKind.{BookKind}
use Rattle.store_spec.specs.declared.version.Version.{Version}
use Rattle.store_spec.specs.Changes.{Definitions}
use Rattle.store_spec.specs.DefinitionFile.{IsDefinitionFile}
use Rattle.store_spec.specs.Directory.{Directory, directory}
use Rattle.store_spec.specs.FileNames.{IsDefinitionName, IsUuid, definition_name}
use Rattle.store_spec.specs.StandsFor.{Holds, IsNamed, StandsFor}
use Rattle.def_keeper.specs.declared.outcome.FoundDefinition.{FoundDefinition}
use Rattle.def_keeper.specs.declared.outcome.OpenFault.{OpenFault}
use Rattle.def_keeper.specs.declared.outcome.OpenFault.TheVariants as fault

-- the name is among these
abbrev pub is_listed : List ℕ → List (List ℕ) → Bool
is_listed n names = list_any (bytes_eq n) names

-- no name comes after a greater one, byte by byte
abbrev pub IsInOrder : List (List ℕ) → Type 0
IsInOrder names = IsSorted (slice_cmp nat_cmp) names

-- names that rise, byte by byte
abbrev pub AreRising : List (List ℕ) → Type 0
AreRising names = IsStrictlySortedBy (slice_cmp nat_cmp) names

-- the order of the files' names, by their bytes
abbrev pub ComesBefore : List ℕ → List ℕ → Type 0
ComesBefore one other = slice_cmp nat_cmp one other ≡ Less

-- the files of definitions that were found
abbrev pub files_in : List FoundDefinition → List (List ℕ)
files_in rows = map (λ f. definition_name f.kind f.uuid) rows

-- the file of a definition that was found is one in this version
abbrev pub IsFound : Directory → FoundDefinition → Type 0
IsFound d f = (bytes : List ℕ) × (e : Entry) × (d (definition_name f.kind f.uuid) ≡ Some bytes) × IsDefinitionFile f.version e bytes

-- of the files with these names the map has the definitions, and the rows give the version of each
pub record HasFound (names : List (List ℕ)) (d : Directory) (map : Definitions) (rows : List FoundDefinition) : Type 0 where
  pub files : (k : BookKind) (uuid : List ℕ) → IsUuid uuid → is_listed (definition_name k uuid) names ≡ true → Holds (d (definition_name k uuid)) (map k uuid)
  pub none : (k : BookKind) (uuid : List ℕ) → is_listed (definition_name k uuid) names ≡ false → map k uuid ≡ None
  pub no_other : (n : List ℕ) → is_listed n names ≡ true → IsDefinitionName n → (IsNamed n → ⊥) → d n ≡ None
  pub versions : All (IsFound d) rows
  pub rising : AreRising (files_in rows)
  pub from : All (λ n. is_listed n names ≡ true) (files_in rows)
  pub all : (k : BookKind) (uuid : List ℕ) (e : Entry) → map k uuid ≡ Some e → (v : Version) × Contains rows (record { kind = k; uuid = uuid; version = v })

-- the directory stands for the map, and the rows give the version of each file, by rising names
pub record IsWhole (d : Directory) (map : Definitions) (rows : List FoundDefinition) : Type 0 where
  pub stands : StandsFor d map
  pub versions : All (IsFound d) rows
  pub rising : AreRising (files_in rows)
  pub all : (k : BookKind) (uuid : List ℕ) (e : Entry) → map k uuid ≡ Some e → (v : Version) × Contains rows (record { kind = k; uuid = uuid; version = v })

-- of a store that tells its operations
abbrev pub IsWholeAt : Told → Definitions → List FoundDefinition → Type 0
IsWholeAt None map rows = Unit {0}
IsWholeAt (Some os) map rows = IsWhole (directory os) map rows

-- the names of all files in order; the file comes next after those of which the map has the definitions
pub record ComesNext (d : Directory) (file bytes : List ℕ) (map : Definitions) : Type 0 where
  pub names : List (List ℕ)
  pub rows : List FoundDefinition
  pub at : ℕ
  pub listed : Lists d names
  pub ordered : IsInOrder names
  pub within : at < length names
  pub next : get_or names at file ≡ file
  pub before : HasFound (take at names) d map rows
  pub content : d file ≡ Some bytes

-- a file of this name and these bytes is no definition
abbrev pub IsNoDefinition : List ℕ → List ℕ → Type 0
IsNoDefinition name bytes = (k : BookKind) (uuid : List ℕ) (v : Version) (e : Entry) → IsUuid uuid → name ≡ definition_name k uuid → IsDefinitionFile v e bytes → ⊥

-- the file is the first that is no definition, where those before it are some and have names of their own
pub record IsFirstBad (d : Directory) (file : List ℕ) : Type 0 where
  pub map : Definitions
  pub bytes : List ℕ
  pub next : ComesNext d file bytes map
  pub says : IsDefinitionName file
  pub bad : IsNoDefinition file bytes

-- the file of the second is the first whose definition has a name that another of its kind has before it
pub record IsFirstTwice (d : Directory) (k : BookKind) (one two : List ℕ) : Type 0 where
  pub map : Definitions
  pub bytes : List ℕ
  pub version : Version
  pub entry : Entry
  pub other : Entry
  pub next : ComesNext d (definition_name k two) bytes map
  pub file : IsDefinitionFile version entry bytes
  pub kept : map k one ≡ Some other
  pub same_name : other.name ≡ entry.name
  pub apart : one ≡ two → ⊥

-- a fault is the first one in the order of the files' names
abbrev pub IsFaultOf : Directory → OpenFault → Type 0
IsFaultOf d fault.Device = Unit {0}
IsFaultOf d (fault.NotADefinition file) = IsFirstBad d file
IsFaultOf d (fault.TwoOfOneName k one two) = IsFirstTwice d k one two

-- the same of a store that tells its operations
abbrev pub IsFaultAt : Told → OpenFault → Type 0
IsFaultAt None f = Unit {0}
IsFaultAt (Some os) f = IsFaultOf (directory os) f
