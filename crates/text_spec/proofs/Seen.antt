-- A tree in memory, part by part.
use Rattle.std.proofs.Common.{◌≡◌, List, [], ◌∷◌, ap, rules, refl, ◌∙◌}
use Rattle.std.specs.Prelude.{map}
use Rattle.text_spec.specs.declared.tree.Tree as declared
use Rattle.text_spec.specs.declared.tree.Tree.{out-Tree, the_lemmas}
use Rattle.text_spec.specs.Tree.{Tree, element, seen, all_seen, trees}
use Rattle.text_spec.specs.Look.{listed, children_of, name_of, text_of, pairs_of}

pub seen_parts : (t : declared.Tree) → seen t ≡ element (out-Tree t).name (out-Tree t).attributes (out-Tree t).text (all_seen (out-Tree t).children.items)
seen_parts t = search (rules, the_lemmas)

pub listed-trees : (ts : List Tree) → listed (trees ts) ≡ ts
listed-trees [] = refl
listed-trees (t ∷ ts) = ap (λ rest. t ∷ rest) (listed-trees ts)

pub children_seen : (t : declared.Tree) → children_of (seen t) ≡ map seen (out-Tree t).children.items
children_seen t = ap children_of (seen_parts t) ∙ listed-trees (map seen (out-Tree t).children.items)

pub name_seen : (t : declared.Tree) → name_of (seen t) ≡ (out-Tree t).name
name_seen t = ap name_of (seen_parts t)

pub text_seen : (t : declared.Tree) → text_of (seen t) ≡ (out-Tree t).text
text_seen t = ap text_of (seen_parts t)

pub pairs_seen : (t : declared.Tree) → pairs_of (seen t) ≡ (out-Tree t).attributes
pairs_seen t = ap pairs_of (seen_parts t)
