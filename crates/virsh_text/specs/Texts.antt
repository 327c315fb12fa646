-- A text that is printed, where there is one.
use Rattle.std.specs.Prelude.{ℕ, List, Option, None, Some}

-- the text is printed so; or there is none that is
abbrev pub IsTextOf : (List ℕ → Type 0) → Option (List ℕ) → Type 0
IsTextOf Is None = (text : List ℕ) → Is text → ⊥
IsTextOf Is (Some text) = Is text
