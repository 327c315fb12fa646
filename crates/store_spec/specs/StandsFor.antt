-- Which definitions a directory stands for.
use Rattle.std.specs.Prelude.{◌≡◌, List, ℕ, Option, None, Some}
use Rattle.store_spec.specs.declared.entry.Entry.{Entry}
use Rattle.store_spec.specs.declared.kind.BookKind.{BookKind}
use Rattle.store_spec.specs.declared.version.Version.{Version}
use Rattle.store_spec.specs.Changes.{Definitions}
use Rattle.store_spec.specs.DefinitionFile.{IsDefinitionFile}
use Rattle.store_spec.specs.Directory.{Directory}
use Rattle.store_spec.specs.FileNames.{IsDefinitionName, IsUuid, definition_name}

-- the file holds this entry, in one of the two versions; or there is neither
abbrev pub Holds : Option (List ℕ) → Option Entry → Type 0
Holds None None = Unit {0}
Holds (Some bytes) (Some e) = (v : Version) × IsDefinitionFile v e bytes
Holds one other = ⊥

-- the name is that of a definition's file
abbrev pub IsNamed : List ℕ → Type 0
IsNamed name = (k : BookKind) × (uuid : List ℕ) × IsUuid uuid × (name ≡ definition_name k uuid)

-- each entry has its file, and each file whose name ends in '.def' is one entry; other names are not looked at
pub record StandsFor (d : Directory) (map : Definitions) : Type 0 where
  pub files : (k : BookKind) (uuid : List ℕ) → IsUuid uuid → Holds (d (definition_name k uuid)) (map k uuid)
  pub no_other : (name : List ℕ) → IsDefinitionName name → (IsNamed name → ⊥) → d name ≡ None
