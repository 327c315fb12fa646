-- How a file's lines are taken apart.
use Rattle.std.specs.Prelude.{◌≡◌, ◌==◌, ◌++◌, Bool, false, List, ◌∷◌, ℕ, codes, Option, None, Some}
use Rattle.std.specs.List.{list_any}
use Rattle.std.specs.Borrow.{Bor}
use Rattle.store_spec.specs.DefinitionFile.{first_line, has_feed, line, line_feed, yes_or_no}
use Rattle.store_reading.specs.declared.lines.FirstLine.{FirstLine}

-- what comes after a front, where the bytes begin with it
abbrev pub Strips : List ℕ → List ℕ → Option (Bor (List ℕ)) → Type 0
Strips front bytes None = (rest : List ℕ) → bytes ≡ front ++ rest → ⊥
Strips front bytes (Some rest) = bytes ≡ front ++ rest.now

-- what comes before an ending, where the bytes end with it
abbrev pub Ends : List ℕ → List ℕ → Option (Bor (List ℕ)) → Type 0
Ends ending bytes None = (rest : List ℕ) → bytes ≡ rest ++ ending → ⊥
Ends ending bytes (Some rest) = bytes ≡ rest.now ++ ending

-- this byte is there
abbrev pub has : ℕ → List ℕ → Bool
has mark bytes = list_any (λ b. b == mark) bytes

-- what comes before the first of these bytes, and after it
abbrev pub Cuts : ℕ → List ℕ → Option (Bor (List ℕ) × Bor (List ℕ)) → Type 0
Cuts mark bytes None = has mark bytes ≡ false
Cuts mark bytes (Some x) = (bytes ≡ x.0.now ++ mark ∷ x.1.now) × (has mark x.0.now ≡ false)

-- a line with this label: its value, and what comes after it
abbrev pub HasLine : List ℕ → List ℕ → Option (Bor (List ℕ) × Bor (List ℕ)) → Type 0
HasLine label bytes None = (value rest : List ℕ) → has_feed value ≡ false → bytes ≡ line (label ++ value) ++ rest → ⊥
HasLine label bytes (Some x) = (bytes ≡ line (label ++ x.0.now) ++ x.1.now) × (has_feed x.0.now ≡ false)

-- a flag, and what comes after it and the word before the name
abbrev pub HasFlag : List ℕ → Option (Bool × Bor (List ℕ)) → Type 0
HasFlag bytes None = (autostart : Bool) (rest : List ℕ) → bytes ≡ yes_or_no autostart ++ (codes " name=" ++ rest) → ⊥
HasFlag bytes (Some x) = bytes ≡ yes_or_no x.0 ++ (codes " name=" ++ x.1.now)

-- a first line with this front
abbrev pub HasFirst : List ℕ → List ℕ → Option FirstLine → Type 0
HasFirst front bytes None = (autostart : Bool) (name rest : List ℕ) → has_feed name ≡ false → bytes ≡ first_line front autostart name ++ rest → ⊥
HasFirst front bytes (Some f) = (bytes ≡ first_line front f.autostart f.name.now ++ f.rest.now) × (has_feed f.name.now ≡ false)
