-- What is read of a definition's file.
use Rattle.std.specs.Prelude.{◌≡◌, ◌≤◌, ◌++◌, Bool, List, ℕ, IsUtf8, codes, decimal, length, Option, None, Some}
use Rattle.virt_types.specs.Limits.{most_text_bytes}
use Rattle.virt_types.specs.Name.{IsName}
use Rattle.store_spec.specs.declared.entry.Entry.{Entry}
use Rattle.store_spec.specs.declared.version.Version.{Version}
use Rattle.store_spec.specs.declared.version.Version.TheVariants as version
use Rattle.store_spec.specs.DefinitionFile.{IsDefinitionFile, IsEntryOf, line}
use Rattle.store_reading.specs.declared.definition.ReadDefinition.{ReadDefinition}

-- the text, or the name, that bytes are, exactly where they are one
abbrev pub IsTextOf : List ℕ → Option (List ℕ) → Type 0
IsTextOf bytes None = IsUtf8 bytes → ⊥
IsTextOf bytes (Some text) = (text ≡ bytes) × IsUtf8 bytes

abbrev pub IsNameOf : List ℕ → Option (List ℕ) → Type 0
IsNameOf bytes None = IsName bytes → ⊥
IsNameOf bytes (Some name) = (name ≡ bytes) × IsName bytes

-- the parts of an entry that a file may hold, but for the title's form
pub record AreParts (name title text : List ℕ) : Type 0 where
  pub is_name : IsName name
  pub is_title : IsUtf8 title
  pub is_text : IsUtf8 text
  pub is_short : length text ≤ most_text_bytes

-- the entry with these parts, where they are some
abbrev pub IsMadeOf : Bool → List ℕ → List ℕ → List ℕ → Option Entry → Type 0
IsMadeOf autostart name title text None = AreParts name title text → ⊥
IsMadeOf autostart name title text (Some e) = (e ≡ record { name = name; autostart = autostart; title = title; text = text }) × AreParts name title text

-- what comes after the first line in version 2
abbrev pub after_first : Entry → List ℕ
after_first e = line (codes "title=" ++ e.title) ++ (line (codes "length=" ++ decimal (length e.text)) ++ e.text)

-- the entry of version 2 that goes on so, after a first line with this flag and name
abbrev pub ReadsAfter : Bool → List ℕ → List ℕ → Option Entry → Type 0
ReadsAfter autostart name rest None =
    (e : Entry) → e.autostart ≡ autostart → e.name ≡ name → IsEntryOf version.Two e → rest ≡ after_first e → ⊥
ReadsAfter autostart name rest (Some e) = (e.autostart ≡ autostart) × (e.name ≡ name) × IsEntryOf version.Two e × (rest ≡ after_first e)

-- the entry of a file of this version, where it is one
abbrev pub ReadsAs : Version → List ℕ → Option Entry → Type 0
ReadsAs v bytes None = (e : Entry) → IsDefinitionFile v e bytes → ⊥
ReadsAs v bytes (Some e) = IsDefinitionFile v e bytes

-- the definition that a file holds, exactly where it holds one
abbrev pub IsReadAs : List ℕ → Option ReadDefinition → Type 0
IsReadAs bytes None = (v : Version) (e : Entry) → IsDefinitionFile v e bytes → ⊥
IsReadAs bytes (Some d) = IsDefinitionFile d.version d.entry bytes
