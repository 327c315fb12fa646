-- What a sink took of some bytes.
use Rattle.std.specs.Prelude.{◌≡◌, ◌+◌, ℕ, ◌<◌, List, length, take, Option, Result, Ok, Err}
use Rattle.std.specs.Io.KnownBytes.{Appends}

-- all of them, or so many and not all
abbrev pub Takes : Option (List ℕ) → Option (List ℕ) → List ℕ → Result (Unit {0}) ℕ → Type 0
Takes held now bytes (Ok _) = Appends held now bytes
Takes held now bytes (Err count) = (count < length bytes) × Appends held now (take count bytes)

-- the same of bytes that come after so many others, which are counted too
abbrev pub TakesAfter : ℕ → Option (List ℕ) → Option (List ℕ) → List ℕ → Result (Unit {0}) ℕ → Type 0
TakesAfter before held now bytes (Ok u) = Takes held now bytes (Ok u)
TakesAfter before held now bytes (Err count) = (more : ℕ) × (count ≡ before + more) × Takes held now bytes (Err more)
