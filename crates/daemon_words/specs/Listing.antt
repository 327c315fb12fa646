-- What `virtd words` prints.
use Rattle.std.specs.Prelude.{List, [], ◌∷◌, ◌++◌, ℕ, codes}
use Rattle.std.specs.List.{flat_map}

-- each text in a line of its own
abbrev pub lines : List (List ℕ) → List ℕ
lines texts = flat_map (λ text. text ++ 10 ∷ []) texts

-- the commands; DIR, ADDRESS and N stand for words, and one in brackets may be left out
abbrev pub command_list : List ℕ
command_list = lines (codes "demo" ∷ codes "stdio DIR" ∷ codes "listen DIR ADDRESS [N]" ∷ codes "check DIR" ∷ codes "load N" ∷ codes "words" ∷ [])
