-- Trees in memory that are put together again with other children.
use Rattle.std.proofs.Common.{◌≡◌, ℕ, List, [], ◌∷◌, ◌++◌, sym, ap, ◌∙◌}
use Rattle.std.specs.Prelude.{map}
use Rattle.std.proofs.lemmas.List.{map-append}
use Rattle.text_spec.specs.declared.tree.Tree as declared
use Rattle.text_spec.specs.declared.tree.Tree.{out-Tree}
use Rattle.text_spec.specs.Look.{children_of}
use Rattle.text_spec.specs.Tree.{Tree, element, seen, trees}
use Rattle.text_spec.proofs.Seen.{children_seen, seen_parts}
use Rattle.xml_print.specs.LiveText.{in_slots, with_children, with_last}

pub parts_with : (t : declared.Tree) (ts : List Tree) → with_children ts (seen t) ≡ element (out-Tree t).name (out-Tree t).attributes (out-Tree t).text (trees ts)
parts_with t ts = ap (with_children ts) (seen_parts t)

module _ (t : declared.Tree) (now : List declared.Tree) (s : Tree)
    (parts : s ≡ element (out-Tree t).name (out-Tree t).attributes (out-Tree t).text (trees (map seen now))) where
  again : (ts : List Tree) → map seen now ≡ ts → s ≡ with_children ts (seen t)
  again ts is = parts ∙ sym (parts_with t (map seen now)) ∙ ap (λ us. with_children us (seen t)) is

  pub last_put : (last : declared.Tree) → now ≡ (out-Tree t).children.items ++ last ∷ [] → s ≡ with_last (seen last) (seen t)
  last_put last is =
      again _ (ap (map seen) is ∙ map-append seen (out-Tree t).children.items (last ∷ []) ∙ ap (λ ts. ts ++ seen last ∷ []) (sym (children_seen t)))

  pub devices_put : (slots : List ℕ) → map seen now ≡ in_slots slots (map seen (out-Tree t).children.items)
      → s ≡ with_children (in_slots slots (children_of (seen t))) (seen t)
  devices_put slots is = again _ (is ∙ ap (in_slots slots) (sym (children_seen t)))
