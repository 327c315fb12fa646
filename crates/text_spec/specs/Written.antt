-- A tree as a text: an element a line, two blanks a level, attributes in single quotes, an element
-- without content as `<a/>`, one with text alone on one line, a line feed at the end.
use Rattle.std.specs.Prelude.{ℕ, List, [], ◌∷◌, ◌++◌, ◌==◌, if◌then◌else◌, codes, chars, encode_utf8_all}
use Rattle.std.specs.List.{flat_map}
use Rattle.text_spec.specs.declared.pair.Pair.{Pair}
use Rattle.text_spec.specs.Character.{space, line_feed, quote, ampersand, apostrophe, slash, less, greater}
use Rattle.text_spec.specs.Tree.{Tree, element, Trees, none, first}

-- a character of an element's text, by a reference where it would begin markup
unfoldable pub in_text : ℕ → List ℕ
in_text c =
    if c == ampersand then codes "&amp;"
    else (if c == less then codes "&lt;"
    else (if c == greater then codes "&gt;" else c ∷ []))

-- a character of a value, by a reference also where it is a quote
unfoldable pub in_value : ℕ → List ℕ
in_value c =
    if c == quote then codes "&quot;" else (if c == apostrophe then codes "&apos;" else in_text c)

-- an attribute, after a blank
abbrev pub attribute_written : Pair → List ℕ
attribute_written p =
    space ∷ chars p.name ++ codes "='" ++ flat_map in_value (chars p.value) ++ apostrophe ∷ []

-- what closes an element of this name
abbrev pub closing : List ℕ → List ℕ
closing name = less ∷ slash ∷ name ++ greater ∷ line_feed ∷ []

-- an element without children, after its attributes
abbrev pub without_children : List ℕ → List ℕ → List ℕ
without_children name [] = codes "/>" ++ line_feed ∷ []
without_children name (c ∷ text) = greater ∷ c ∷ text ++ closing name

-- the same for one whose children are written
abbrev pub with_children : List ℕ → List ℕ → List ℕ → List ℕ → List ℕ
with_children inset name text inner = greater ∷ text ++ line_feed ∷ inner ++ inset ++ closing name

abbrev pub content_written : List ℕ → List ℕ → List ℕ → List ℕ → Trees → List ℕ
content_written inset name text inner none = without_children name text
content_written inset name text inner (first t ts) = with_children inset name text inner

-- the blanks of the next level
abbrev pub deeper : List ℕ → List ℕ
deeper inset = inset ++ space ∷ space ∷ []

-- an opening tag up to its end
abbrev pub opened : List ℕ → List ℕ → List Pair → List ℕ
opened inset name attributes = inset ++ less ∷ name ++ flat_map attribute_written attributes

-- the characters of an element after these blanks, and of elements one after another
unfoldable mutual
  pub tree_written : List ℕ → Tree → List ℕ
  tree_written inset (element name attributes text children) =
      opened inset (chars name) attributes
      ++ content_written inset (chars name) (flat_map in_text (chars text)) (trees_written (deeper inset) children) children

  pub trees_written : List ℕ → Trees → List ℕ
  trees_written inset none = []
  trees_written inset (first t ts) = tree_written inset t ++ trees_written inset ts

-- the text of a tree, in UTF-8
abbrev pub written : Tree → List ℕ
written tree = encode_utf8_all (tree_written [] tree)
