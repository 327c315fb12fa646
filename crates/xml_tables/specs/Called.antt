-- What is in a tree, by words: elements of a name, values of attributes, texts.
use Rattle.std.specs.Prelude.{ℕ, List, Bool, Option, find, filter, option_map}
use Rattle.std.specs.Str.{bytes_eq}
use Rattle.text_spec.specs.declared.pair.Pair.{Pair}
use Rattle.text_spec.specs.Look.{children_of, name_of, text_of, pairs_of}
use Rattle.text_spec.specs.Tree.{Tree}

-- an element, or an attribute, of this name
unfoldable pub is_called : List ℕ → Tree → Bool
is_called word t = bytes_eq (name_of t) word

unfoldable pub is_pair_called : List ℕ → Pair → Bool
is_pair_called word p = bytes_eq p.name word

-- the elements of a name in one, and the first of them
unfoldable pub all_called : List ℕ → Tree → List Tree
all_called word t = filter (is_called word) (children_of t)

unfoldable pub first_called : List ℕ → Tree → Option Tree
first_called word t = find (is_called word) (children_of t)

-- the value of an attribute
unfoldable pub value_called : List ℕ → Tree → Option (List ℕ)
value_called word t = option_map (λ p. p.value) (find (is_pair_called word) (pairs_of t))

-- the text of the first element of a name
abbrev pub text_called : List ℕ → Tree → Option (List ℕ)
text_called word t = option_map text_of (first_called word t)
