-- The names of the store's files.
use Rattle.std.specs.Prelude.{◌≡◌, ◌<◌, ◌++◌, List, ℕ, All, codes, length}
use Rattle.uuid.specs.Text.{hyphenated_text, lower}
use Rattle.store_spec.specs.declared.kind.BookKind.{BookKind}
use Rattle.store_spec.specs.declared.kind.BookKind.TheVariants as kind

-- the word with which the names of a kind's files begin
abbrev pub kind_word : BookKind → List ℕ
kind_word kind.Domain = codes "domain"
kind_word kind.Network = codes "network"
kind_word kind.Pool = codes "pool"

-- KIND-UUID and an ending, with the identifier in groups of small digits
unfoldable pub file_name : List ℕ → List ℕ → List ℕ → List ℕ
file_name word uuid ending = word ++ codes "-" ++ hyphenated_text lower uuid ++ ending

-- the file of a definition
abbrev pub definition_name : BookKind → List ℕ → List ℕ
definition_name k uuid = file_name (kind_word k) uuid (codes ".def")

-- the file in which a definition is written before it gets its name
abbrev pub definition_draft : BookKind → List ℕ → List ℕ
definition_draft k uuid = file_name (kind_word k) uuid (codes ".tmp")

-- the file that reports a live boot
abbrev pub status_name : List ℕ → List ℕ
status_name uuid = file_name (codes "run") uuid (codes ".sta")

-- the file in which it is written before it gets its name
abbrev pub status_draft : List ℕ → List ℕ
status_draft uuid = file_name (codes "run") uuid (codes ".tmp")

-- the name says that its file is a definition
abbrev pub IsDefinitionName : List ℕ → Type 0
IsDefinitionName name = (stem : List ℕ) × (name ≡ stem ++ codes ".def")

-- the name says that its file reports a live boot
abbrev pub IsStatusName : List ℕ → Type 0
IsStatusName name = (stem : List ℕ) × (name ≡ codes "run-" ++ stem ++ codes ".sta")

-- the sixteen bytes of an identifier
pub record IsUuid (uuid : List ℕ) : Type 0 where
  pub sixteen : length uuid ≡ 16
  pub bytes : All (λ b. b < 256) uuid
