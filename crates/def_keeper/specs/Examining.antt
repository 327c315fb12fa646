-- What the files of a directory are found to be when it is examined.
use Rattle.std.specs.Prelude.{◌≡◌, ◌++◌, List, ℕ, None, Some, All, Contains, map}
use Rattle.virt_types.specs.declared.status.Status.{Status}
use Rattle.files_disk.specs.Telling.{Told}
use Rattle.store_spec.specs.declared.entry.Entry.{Entry}
use Rattle.store_spec.specs.declared.kind.BookKind.{BookKind}
use Rattle.store_spec.specs.declared.version.Version.{Version}
use Rattle.store_spec.specs.DefinitionFile.{IsDefinitionFile}
use Rattle.store_spec.specs.Directory.{Directory, directory}
use Rattle.store_spec.specs.FileNames.{IsDefinitionName, IsStatusName, IsUuid, definition_name}
use Rattle.store_spec.specs.StatusFile.{IsStatusFile}
use Rattle.store_reading.specs.Status.{TellsStatus}
use Rattle.def_keeper.specs.declared.report.Finding.{Finding}
use Rattle.def_keeper.specs.declared.report.Finding.TheVariants as finding
use Rattle.def_keeper.specs.declared.report.Report.{Report}
use Rattle.def_keeper.specs.Opening.{AreRising, ComesBefore}

-- a file of this name and these bytes is the definition of an object of this kind, identifier and name
pub record IsNamedSo (file bytes : List ℕ) (k : BookKind) (uuid name : List ℕ) : Type 0 where
  pub version : Version
  pub entry : Entry
  pub is_uuid : IsUuid uuid
  pub named : file ≡ definition_name k uuid
  pub holds : IsDefinitionFile version entry bytes
  pub same_name : entry.name ≡ name

-- the same of a file of a directory
abbrev pub IsDefinitionOf : Directory → List ℕ → BookKind → List ℕ → List ℕ → Type 0
IsDefinitionOf d file k uuid name = (bytes : List ℕ) × (d file ≡ Some bytes) × IsNamedSo file bytes k uuid name

-- an earlier file is the definition of an object of this kind and name
abbrev pub IsNamedBefore : Directory → List ℕ → BookKind → List ℕ → Type 0
IsNamedBefore d file k name = (earlier : List ℕ) × (uuid : List ℕ) × ComesBefore earlier file × IsDefinitionOf d earlier k uuid name

-- a status file of this name and these bytes reports this boot of a domain of this name
abbrev pub TellsOf : List ℕ → List ℕ → List ℕ → ℕ → Type 0
TellsOf file bytes name boot = (s : Status) × IsStatusFile file bytes s × (s.name ≡ name) × (s.boot ≡ boot)

-- what a file of these bytes is found to be: a definition whose name no earlier file of its kind has; a definition's file
-- that is no such one; a boot that was live; or a status file that reports nothing
abbrev pub IsFinding : Directory → List ℕ → List ℕ → Finding → Type 0
IsFinding d file bytes (finding.Ok k name uuid) = IsNamedSo file bytes k uuid name × (IsNamedBefore d file k name → ⊥)
IsFinding d file bytes finding.Damaged = IsDefinitionName file
    × ((k : BookKind) (uuid name : List ℕ) → IsNamedSo file bytes k uuid name → IsNamedBefore d file k name)
IsFinding d file bytes (finding.Ran name boot) = TellsOf file bytes name boot
IsFinding d file bytes finding.Unread = IsStatusName file × TellsStatus file bytes None

-- a file of a directory is what it is reported to be
abbrev pub IsReport : Directory → Report → Type 0
IsReport d r = (bytes : List ℕ) × (d r.file ≡ Some bytes) × IsFinding d r.file bytes r.found

-- the names of the files that are reported
abbrev pub files_of : List Report → List (List ℕ)
files_of reports = map (λ r. r.file) reports

-- just the files whose names say so are reported, by rising names, each with what it is
pub record AreReports (Says : List ℕ → Type 0) (d : Directory) (reports : List Report) : Type 0 where
  pub rising : AreRising (files_of reports)
  pub only : All Says (files_of reports)
  pub all : (n bytes : List ℕ) → Says n → d n ≡ Some bytes → Contains (files_of reports) n
  pub each : All (IsReport d) reports

-- the files of definitions are reported, and then those of live boots
pub record IsExamined (d : Directory) (reports : List Report) : Type 0 where
  pub definitions : List Report
  pub statuses : List Report
  pub parts : reports ≡ definitions ++ statuses
  pub of_definitions : AreReports IsDefinitionName d definitions
  pub of_statuses : AreReports IsStatusName d statuses

-- of a store that tells its operations
abbrev pub IsExaminedAt : Told → List Report → Type 0
IsExaminedAt None reports = Unit {0}
IsExaminedAt (Some os) reports = IsExamined (directory os) reports
