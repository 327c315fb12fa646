-- How the parts of a definition are spelled in its tree, by words.
use Rattle.std.specs.Prelude.{ℕ, List, [], Option, option_map}
use Rattle.std.specs.Option.{option_to_list}
use Rattle.text_spec.specs.declared.pair.Pair.{Pair}
use Rattle.text_spec.specs.Tree.{Tree, element, trees}

-- an attribute with its value; the same, where there is a value
abbrev pub worth : List ℕ → List ℕ → Pair
worth word value = record { name = word; value = value }

abbrev pub worths : List ℕ → Option (List ℕ) → List Pair
worths word value = option_to_list (option_map (worth word) value)

-- an element with a text and other elements
abbrev pub spelled : List ℕ → List Pair → List ℕ → List Tree → Tree
spelled word attributes text children = element word attributes text (trees children)

-- one with a text alone
abbrev pub worded : List ℕ → List ℕ → Tree
worded word text = spelled word [] text []

-- one with a text alone, where there is a text
abbrev pub wordeds : List ℕ → Option (List ℕ) → List Tree
wordeds word text = option_to_list (option_map (worded word) text)
