-- The tree that a text is: elements with attributes, and the text that they hold themselves.
use Rattle.std.specs.Prelude.{ℕ, List, [], ◌∷◌, map}
use Rattle.text_spec.specs.declared.pair.Pair.{Pair}
use Rattle.text_spec.specs.declared.tree.Tree as declared
use Rattle.text_spec.specs.declared.tree.Tree.{fold-Tree}
use Rattle.text_spec.specs.declared.tree.Tree.TheOpen.{Tree-F}

-- An element: its name, its attributes in order, its own text without the blanks at both ends, and
-- the elements in it. Texts are bytes in UTF-8.
mutual
  pub data Tree : Type 0 where
    element : List ℕ → List Pair → List ℕ → Trees → Tree

  pub data Trees : Type 0 where
    none : Trees
    first : Tree → Trees → Trees

-- the trees of a list
abbrev pub trees : List Tree → Trees
trees [] = none
trees (t ∷ ts) = first t (trees ts)

-- these trees before those
abbrev pub before : List Tree → Trees → Trees
before [] others = others
before (t ∷ ts) others = first t (before ts others)

-- one level of a tree in memory, with the elements in it seen already
abbrev pub seen_step : Tree-F Tree → Tree
seen_step t = element t.name t.attributes t.text (trees t.children.items)

-- the tree that one in memory is
abbrev pub seen : declared.Tree → Tree
seen = fold-Tree Tree seen_step

abbrev pub all_seen : List declared.Tree → Trees
all_seen ts = trees (map seen ts)
