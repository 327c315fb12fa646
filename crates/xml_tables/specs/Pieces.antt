-- The pieces of what comes after a separator, and entries after others.
use Rattle.std.specs.Prelude.{ℕ, List, [], ◌∷◌, ◌++◌, Option, Some, None}
use Rattle.types_base.specs.declared.script.ScriptEntry.{ScriptEntry}
use Rattle.text_spec.specs.GuestScript.{pieces_of}

abbrev pub pieces_in : Option (List ℕ) → List (List ℕ)
pieces_in None = []
pieces_in (Some rest) = pieces_of rest

-- what follows a separator at the front
abbrev pub after_first : List ℕ → Option (List ℕ)
after_first [] = None
after_first (c ∷ cs) = Some cs

abbrev pub behind : List ScriptEntry → Option (List ScriptEntry) → Option (List ScriptEntry)
behind found None = None
behind found (Some more) = Some (found ++ more)
