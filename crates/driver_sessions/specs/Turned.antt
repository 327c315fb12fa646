-- What many have, in the order in which the last of them comes first.
use Rattle.std.specs.Prelude.{List, [], ◌∷◌, ◌++◌}

-- what each has, that of the last first
abbrev pub turned : {A B : Type 0} → (A → List B) → List A → List B
turned has [] = []
turned has (one ∷ all) = turned has all ++ has one
