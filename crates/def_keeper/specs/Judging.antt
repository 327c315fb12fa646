-- How the files of a directory are examined one after another. No public clause cites this.
use Rattle.std.specs.Prelude.{◌≡◌, ◌⊎◌, ◌++◌, Bool, true, false, List, [], ◌∷◌, ℕ, None, Some}
use Rattle.std.specs.Option.{IsSome}
use Rattle.files_disk.specs.Telling.{Told}
use Rattle.store_spec.specs.declared.kind.BookKind.{BookKind}
use Rattle.store_spec.specs.Directory.{Directory, directory}
use Rattle.store_spec.specs.FileNames.{IsDefinitionName, IsStatusName}
use Rattle.store_reading.specs.Status.{TellsStatus}
use Rattle.def_map.specs.Map.{key_of}
use Rattle.def_map.specs.Rows.{at, Updates}
use Rattle.def_keeper.specs.declared.report.Finding.{Finding}
use Rattle.def_keeper.specs.declared.report.Finding.TheVariants as finding
use Rattle.def_keeper.specs.declared.report.Report.{Report}
use Rattle.def_keeper.specs.Examining.{AreReports, IsNamedSo, TellsOf}

-- the names of the objects so far, in rows by kind and name
abbrev pub Names : Type 0
Names = List (List ℕ × Unit {0})

-- the name is new, and has a row from now on; or it has one
abbrev pub IsNewName : BookKind → List ℕ → Names → Names → Bool → Type 0
IsNewName k name old new true = (at old (key_of k name) ≡ None) × Updates (key_of k name) (Some tt) old new
IsNewName k name old new false = IsSome (at old (key_of k name)) × (new ≡ old)

-- what a definition's file is found to be after those whose names are in the rows, by its object's name
abbrev pub FoundBy : BookKind → List ℕ → List ℕ → Names → Names → Finding → Type 0
FoundBy k uuid name old new (finding.Ok l n u) = (l ≡ k) × (u ≡ uuid) × (n ≡ name) × IsNewName k name old new true
FoundBy k uuid name old new finding.Damaged = IsNewName k name old new false
FoundBy k uuid name old new other = ⊥

-- and by its bytes
abbrev pub Judges : List ℕ → List ℕ → Names → Names → Finding → Type 0
Judges file bytes old new found =
    ((k : BookKind) × (uuid : List ℕ) × (name : List ℕ) × IsNamedSo file bytes k uuid name × FoundBy k uuid name old new found)
    ⊎ ((found ≡ finding.Damaged) × (new ≡ old) × ((k : BookKind) (uuid name : List ℕ) → IsNamedSo file bytes k uuid name → ⊥))

-- what a status file is found to be
abbrev pub TellsFound : List ℕ → List ℕ → Finding → Type 0
TellsFound file bytes (finding.Ran name boot) = TellsOf file bytes name boot
TellsFound file bytes finding.Unread = TellsStatus file bytes None
TellsFound file bytes other = ⊥

-- the next file is reported where its name says so; one that says nothing, or is absent, is passed over
abbrev pub Adds : (List ℕ → Type 0) → (List ℕ → Finding → Type 0) → Type 0 → Directory → List ℕ → List Report → List Report → Type 0
Adds Says Is Stays d file before now =
    (((Says file → ⊥) ⊎ (d file ≡ None)) × Stays × (now ≡ before))
    ⊎ ((bytes : List ℕ) × (found : Finding) × Says file × (d file ≡ Some bytes) × Is bytes found × (now ≡ before ++ record { file = file; found = found } ∷ []))

-- the next file is reported where it is a definition's, of a store that tells its operations
abbrev pub AddsDefinition : Told → List ℕ → Names → Names → List Report → List Report → Type 0
AddsDefinition None file old new before now = Unit {0}
AddsDefinition (Some os) file old new before now =
    Adds IsDefinitionName (λ bytes found. Judges file bytes old new found) (new ≡ old) (directory os) file before now

-- the same of status files
abbrev pub AddsStatus : Told → List ℕ → List Report → List Report → Type 0
AddsStatus None file before now = Unit {0}
AddsStatus (Some os) file before now = Adds IsStatusName (λ bytes found. TellsFound file bytes found) (Unit {0}) (directory os) file before now

-- reports of all definitions' files; and, after those before, of all status files
abbrev pub HasDefinitionsAt : Told → List Report → Type 0
HasDefinitionsAt None now = Unit {0}
HasDefinitionsAt (Some os) now = AreReports IsDefinitionName (directory os) now

-- all status files are reported, after what was before
abbrev pub HasStatusesAt : Told → List Report → List Report → Type 0
HasStatusesAt None before now = Unit {0}
HasStatusesAt (Some os) before now = (more : List Report) × (now ≡ before ++ more) × AreReports IsStatusName (directory os) more
