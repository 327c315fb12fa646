-- How the parts of a definition are spelled in its tree: attributes, elements, and what is absent.
use Rattle.std.specs.Prelude.{ℕ, List, [], ◌∷◌, length, Option, option_map, if◌then◌else◌, Bool, ◌&&◌, nat_le}
use Rattle.std.specs.Option.{option_to_list}
use Rattle.text_spec.specs.declared.pair.Pair.{Pair}
use Rattle.text_spec.specs.declared.vocabulary.AttributeName.{AttributeName}
use Rattle.text_spec.specs.declared.vocabulary.ElementName.{ElementName}
use Rattle.text_spec.specs.Tree.{Tree, element, trees}
use Rattle.text_spec.specs.Text.{most_bytes, most_elements}
use Rattle.text_spec.specs.Vocabulary.{element_word, attribute_word}
use Rattle.text_spec.specs.Writable.{size}
use Rattle.text_spec.specs.Written.{written}

-- an attribute with its value
abbrev pub pair : AttributeName → List ℕ → Pair
pair n value = record { name = attribute_word n; value = value }

-- the same, where there is a value
abbrev pub pairs : AttributeName → Option (List ℕ) → List Pair
pairs n value = option_to_list (option_map (pair n) value)

-- an element with a text and other elements
abbrev pub filled : ElementName → List Pair → List ℕ → List Tree → Tree
filled n attributes text children = element (element_word n) attributes text (trees children)

-- one with attributes alone
abbrev pub tagged : ElementName → List Pair → Tree
tagged n attributes = filled n attributes [] []

-- one with a text
abbrev pub worded : ElementName → List Pair → List ℕ → Tree
worded n attributes text = filled n attributes text []

-- one with other elements in it
abbrev pub holding : ElementName → List Pair → List Tree → Tree
holding n attributes children = filled n attributes [] children

-- the element of what is there
abbrev pub present : {A : Type 0} → (A → Tree) → Option A → List Tree
present tree_of part = option_to_list (option_map tree_of part)

-- an element that is there where this is so
abbrev pub flagged : ElementName → Bool → List Tree
flagged n flag = if flag then tagged n [] ∷ [] else []

-- a tree whose text is within the limits of a text
unfoldable pub fits : Tree → Bool
fits t = nat_le (length (written t)) most_bytes && nat_le (size t) most_elements
