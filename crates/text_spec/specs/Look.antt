-- What is in a tree: elements by name, attributes, text.
use Rattle.std.specs.Prelude.{ℕ, List, [], ◌∷◌, Bool, Option, Some, None, find, filter, option_map, option_and_then}
use Rattle.std.specs.Str.{bytes_eq}
use Rattle.text_spec.specs.declared.pair.Pair.{Pair}
use Rattle.text_spec.specs.declared.vocabulary.AttributeName.{AttributeName}
use Rattle.text_spec.specs.declared.vocabulary.ElementName.{ElementName}
use Rattle.text_spec.specs.declared.row.Place.{Place}
use Rattle.text_spec.specs.declared.row.Place.TheVariants as place
use Rattle.text_spec.specs.declared.row.Source.{Source}
use Rattle.text_spec.specs.declared.row.Source.TheVariants as source
use Rattle.text_spec.specs.Tree.{Tree, element, Trees, none, first}
use Rattle.text_spec.specs.Vocabulary.{element_word, attribute_word}

abbrev pub listed : Trees → List Tree
listed none = []
listed (first t ts) = t ∷ listed ts

-- the elements in one, in order
abbrev pub children_of : Tree → List Tree
children_of (element name attributes text children) = listed children

abbrev pub name_of : Tree → List ℕ
name_of (element name attributes text children) = name

abbrev pub text_of : Tree → List ℕ
text_of (element name attributes text children) = text

abbrev pub pairs_of : Tree → List Pair
pairs_of (element name attributes text children) = attributes

unfoldable pub is_element : ElementName → Tree → Bool
is_element n t = bytes_eq (name_of t) (element_word n)

unfoldable pub is_attribute : AttributeName → Pair → Bool
is_attribute n p = bytes_eq p.name (attribute_word n)

-- the value of an attribute of one
unfoldable pub attribute_of : AttributeName → Tree → Option (List ℕ)
attribute_of n t = option_map (λ p. p.value) (find (is_attribute n) (pairs_of t))

-- the elements of a name in one
unfoldable pub all_of : ElementName → Tree → List Tree
all_of n t = filter (is_element n) (children_of t)

-- the first of them
unfoldable pub first_of : ElementName → Tree → Option Tree
first_of n t = find (is_element n) (children_of t)

abbrev pub all_in : ElementName → Option Tree → List Tree
all_in n None = []
all_in n (Some t) = all_of n t

-- the elements of a place
abbrev pub elements_at : Place → Tree → List Tree
elements_at place.Here t = t ∷ []
elements_at (place.Child n) t = all_of n t
elements_at (place.Inside outer n) t = all_in n (first_of outer t)

-- the first of them
abbrev pub element_at : Place → Tree → Option Tree
element_at place.Here t = Some t
element_at (place.Child n) t = first_of n t
element_at (place.Inside outer n) t = option_and_then (first_of n) (first_of outer t)

-- the value in an element
abbrev pub value_in : Source → Tree → Option (List ℕ)
value_in source.Text t = Some (text_of t)
value_in (source.Attribute n) t = attribute_of n t

-- the value at a place
abbrev pub value_at : Place → Source → Tree → Option (List ℕ)
value_at p s t = option_and_then (value_in s) (element_at p t)
