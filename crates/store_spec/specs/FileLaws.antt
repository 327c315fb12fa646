-- Laws of the store's files, in their subject's own words.
use Rattle.std.specs.Prelude.{◌≡◌, ◌++◌, Bool, false, List, [], ℕ, codes, decimal, length}
use Rattle.virt_types.specs.declared.status.Status.{Status}
use Rattle.virt_types.specs.Name.{IsName}
use Rattle.store_spec.specs.declared.entry.Entry.{Entry}
use Rattle.store_spec.specs.declared.kind.BookKind.{BookKind}
use Rattle.store_spec.specs.declared.version.Version.{Version}
use Rattle.store_spec.specs.declared.version.Version.TheVariants as version
use Rattle.store_spec.specs.DefinitionFile.{IsDefinitionFile, definition_bytes, has_feed, line, three_lines}
use Rattle.store_spec.specs.FileNames.{IsUuid, definition_name}
use Rattle.store_spec.specs.StatusFile.{IsStatusFile}

-- a file holds one entry in one version
abbrev pub HoldsOneEntry : Type 0
HoldsOneEntry = (v w : Version) (e f : Entry) (bytes : List ℕ)
    → IsDefinitionFile v e bytes → IsDefinitionFile w f bytes → (v ≡ w) × (e ≡ f)

-- the file of a network named n1 that isn't started by the daemon and has no title
abbrev pub SpellsItsRow : Type 0
SpellsItsRow =
    definition_bytes version.Two (record { name = codes "n1"; autostart = false; title = []; text = line (codes "<a/>") })
    ≡ line (codes "def 2 autostart=no name=n1") ++ line (codes "title=") ++ line (codes "length=5") ++ line (codes "<a/>")

-- lines that give another length than the text has, or give it in other digits, begin no file
abbrev pub OtherLengthsAreRefused : Type 0
OtherLengthsAreRefused = (autostart : Bool) (name title digits text : List ℕ)
    → IsName name → has_feed title ≡ false → has_feed digits ≡ false → (digits ≡ decimal (length text) → ⊥)
    → (v : Version) (e : Entry) → IsDefinitionFile v e (three_lines autostart name title digits ++ text) → ⊥

-- a status file reports one boot
abbrev pub HoldsOneStatus : Type 0
HoldsOneStatus = (name bytes : List ℕ) (s t : Status) → IsStatusFile name bytes s → IsStatusFile name bytes t → s ≡ t

-- no two definitions have one file
abbrev pub HaveOwnFiles : Type 0
HaveOwnFiles = (k l : BookKind) (one other : List ℕ) → IsUuid one → IsUuid other
    → definition_name k one ≡ definition_name l other → (k ≡ l) × (one ≡ other)
