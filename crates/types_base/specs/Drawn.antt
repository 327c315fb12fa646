-- The words drawn from a source of random words, where the source reports them.
use Rattle.std.specs.Prelude.{◌≡◌, ℕ, List, [], ⊤, Option, Some, None}
use Rattle.std.specs.Io.KnownBytes.{Appends}

-- a new source reports its words where the one that it comes from does, and none is drawn from it yet
abbrev pub HasDrawnNone : Option (List ℕ) → Option (List ℕ) → Type 0
HasDrawnNone None new = ⊤
HasDrawnNone (Some words) new = new ≡ Some []

-- what was made of some words was made of exactly those that were drawn, in order
abbrev pub IsMadeOfDrawn : (List ℕ → Type 0) → Option (List ℕ) → Option (List ℕ) → Type 0
IsMadeOfDrawn IsMadeOf before after = (words : List ℕ) × IsMadeOf words × Appends before after words
