-- What an opening does to a directory: it removes status files, and syncs the directory.
use Rattle.std.specs.Prelude.{◌≡◌, ◌⊎◌, ◌++◌, true, List, [], ◌∷◌, ℕ, Option, None, Some, Result, Ok, Err, All, Contains}
use Rattle.virt_types.specs.declared.status.Status.{Status}
use Rattle.files_disk.specs.Telling.{Told, more}
use Rattle.store_spec.specs.declared.operation.Operation.{Operation}
use Rattle.store_spec.specs.declared.operation.Operation.TheVariants as op
use Rattle.store_spec.specs.Directory.{Directory, directory}
use Rattle.store_spec.specs.FileNames.{IsStatusName}
use Rattle.store_reading.specs.Status.{TellsStatus}
use Rattle.def_keeper.specs.Opening.{AreRising, is_listed}

-- an operation of an opening
abbrev pub IsTidying : Operation → Type 0
IsTidying (op.Remove name) = IsStatusName name
IsTidying op.SyncDirectory = Unit {0}
IsTidying other = ⊥

-- such operations were added, and no others
abbrev pub Tidies : Told → Told → Type 0
Tidies None new = new ≡ None
Tidies (Some os) new = (added : List Operation) × (new ≡ Some (os ++ added)) × All IsTidying added

-- a report is what the status file of this name says
abbrev pub IsReported : Directory → List ℕ → Option Status → Type 0
IsReported d name s = IsStatusName name × ((bytes : List ℕ) × (d name ≡ Some bytes) × TellsStatus name bytes s)

-- the reports are those of the files with these names, one after another
abbrev pub AreReported : Directory → List (List ℕ) → List (Option Status) → Type 0
AreReported d [] [] = Unit {0}
AreReported d (n ∷ names) (s ∷ statuses) = IsReported d n s × AreReported d names statuses
AreReported d names statuses = ⊥

-- just the status files with these names are reported, by rising names
pub record HasReported (names : List (List ℕ)) (d : Directory) (statuses : List (Option Status)) : Type 0 where
  pub files : List (List ℕ)
  pub rising : AreRising files
  pub from : All (λ n. is_listed n names ≡ true) files
  pub all : (n bytes : List ℕ) → is_listed n names ≡ true → IsStatusName n → d n ≡ Some bytes → Contains files n
  pub told : AreReported d files statuses

-- just the status files of the directory are reported, by rising names
pub record IsReports (d : Directory) (statuses : List (Option Status)) : Type 0 where
  pub files : List (List ℕ)
  pub rising : AreRising files
  pub all : (n bytes : List ℕ) → IsStatusName n → d n ≡ Some bytes → Contains files n
  pub told : AreReported d files statuses

-- the same of a store that tells its operations
abbrev pub HasReportedAt : Told → List (List ℕ) → List (Option Status) → Type 0
HasReportedAt None names statuses = Unit {0}
HasReportedAt (Some os) names statuses = HasReported names (directory os) statuses

-- the next file is reported, or is no status file, or is absent
abbrev pub Reports : Directory → List ℕ → List (Option Status) → List (Option Status) → Type 0
Reports d name old new = (((IsStatusName name → ⊥) ⊎ (d name ≡ None)) × (new ≡ old))
    ⊎ ((bytes : List ℕ) × (s : Option Status) × IsStatusName name × (d name ≡ Some bytes) × TellsStatus name bytes s × (new ≡ old ++ s ∷ []))

-- the same of a store that tells its operations
abbrev pub ReportsAt : Told → List ℕ → List (Option Status) → List (Option Status) → Type 0
ReportsAt None name old new = Unit {0}
ReportsAt (Some os) name old new = Reports (directory os) name old new

-- the next file is removed where it is a status file
abbrev pub Removes : {E : Type 0} → List ℕ → Told → Told → Result (Unit {0}) E → Type 0
Removes name old new (Ok done) = ((IsStatusName name → ⊥) × (new ≡ old)) ⊎ (IsStatusName name × (new ≡ more old (op.Remove name)))
Removes name old new (Err e) = (new ≡ old) ⊎ (IsStatusName name × (new ≡ more old (op.Remove name)))

-- the status files with these names are removed, and nothing else is done
pub record HasRemoved (names : List (List ℕ)) (os now : List Operation) : Type 0 where
  pub added : List Operation
  pub is : now ≡ os ++ added
  pub only : All IsTidying added
  pub gone : (n : List ℕ) → is_listed n names ≡ true → IsStatusName n → directory now n ≡ None
  pub absent : (n : List ℕ) → directory os n ≡ None → directory now n ≡ None

-- the same of a store that tells its operations
abbrev pub HasRemovedAt : Told → List (List ℕ) → Told → Type 0
HasRemovedAt None names new = new ≡ None
HasRemovedAt (Some os) names new = (now : List Operation) × (new ≡ Some now) × HasRemoved names os now
