-- What is read of a file's name.
use Rattle.std.specs.Prelude.{◌≡◌, List, ℕ, Option, None, Some}
use Rattle.uuid.specs.Text.{hyphenated_text, lower}
use Rattle.store_spec.specs.declared.kind.BookKind.{BookKind}
use Rattle.store_spec.specs.FileNames.{IsUuid, definition_name, file_name, status_name}
use Rattle.store_spec.specs.StandsFor.{IsNamed}

-- the identifier that is spelled so, in small letters
abbrev pub IsSpelled : List ℕ → Option (List ℕ) → Type 0
IsSpelled digits None = (uuid : List ℕ) → IsUuid uuid → digits ≡ hyphenated_text lower uuid → ⊥
IsSpelled digits (Some uuid) = IsUuid uuid × (digits ≡ hyphenated_text lower uuid)

-- the identifier in the name of a file with this word and ending, exactly where it is one
abbrev pub IsFileOf : List ℕ → List ℕ → List ℕ → Option (List ℕ) → Type 0
IsFileOf word ending name None = (uuid : List ℕ) → IsUuid uuid → name ≡ file_name word uuid ending → ⊥
IsFileOf word ending name (Some uuid) = IsUuid uuid × (name ≡ file_name word uuid ending)

-- the kind and the identifier in the name of a definition's file, exactly where it is one
abbrev pub IsNamedAs : List ℕ → Option (BookKind × List ℕ) → Type 0
IsNamedAs name None = IsNamed name → ⊥
IsNamedAs name (Some x) = IsUuid x.1 × (name ≡ definition_name x.0 x.1)

-- the identifier in the name of a status file, exactly where it is one
abbrev pub IsStatusOf : List ℕ → Option (List ℕ) → Type 0
IsStatusOf name None = (uuid : List ℕ) → IsUuid uuid → name ≡ status_name uuid → ⊥
IsStatusOf name (Some uuid) = IsUuid uuid × (name ≡ status_name uuid)
