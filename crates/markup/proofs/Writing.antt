-- What was written so far, and what is still to be written.
use Rattle.std.proofs.Common.{◌≡◌, ℕ, ◌<◌, List, [], ◌∷◌, ◌++◌, length, ap, ap₂, sym, ◌∙◌, refl, arith, append_assoc, append-nil}
use Rattle.std.specs.Prelude.{chars}
use Rattle.std.specs.List.{flat_map}
use Rattle.text_spec.specs.declared.pair.Pair.{Pair}
use Rattle.text_spec.specs.declared.tree.Tree as declared
use Rattle.text_spec.specs.declared.tree.Tree.{out-Tree}
use Rattle.text_spec.specs.Tree.{seen, all_seen}
use Rattle.text_spec.proofs.Seen.{seen_parts}
use Rattle.text_spec.specs.Written.{in_text, opened, deeper, content_written, without_children, with_children, tree_written, trees_written}

pub piece_moved : {A : Type 0} (f : A → List ℕ) (out now : List ℕ) (x : A) (xs after : List A) → xs ≡ x ∷ after → now ≡ out ++ f x
    → now ++ flat_map f after ≡ out ++ flat_map f xs
piece_moved f out now x xs after e o = rw (e, o) (append_assoc out (f x) (flat_map f after))

pub tree_moved : (inset out now : List ℕ) (x : declared.Tree) (xs after : List declared.Tree) → xs ≡ x ∷ after
    → now ≡ out ++ tree_written inset (seen x)
    → now ++ trees_written inset (all_seen after) ≡ out ++ trees_written inset (all_seen xs)
unfolding trees_written
tree_moved inset out now x xs after e o = rw (e, o) (append_assoc out (tree_written inset (seen x)) (trees_written inset (all_seen after)))

pub none_left : (inset out : List ℕ) (xs : List declared.Tree) → xs ≡ [] → out ++ trees_written inset (all_seen xs) ≡ out
unfolding trees_written
none_left inset out xs e = rw e (append-nil out)

pub content_none : (inset name text inner : List ℕ) (xs : List declared.Tree) → length xs ≡ 0
    → content_written inset name text inner (all_seen xs) ≡ without_children name text
content_none inset name text inner [] e = refl
content_none inset name text inner (x ∷ xs) e = absurd (omega (arith, e))

pub content_some : (inset name text inner : List ℕ) (xs : List declared.Tree) → 0 < length xs
    → content_written inset name text inner (all_seen xs) ≡ with_children inset name text inner
content_some inset name text inner [] h = absurd (omega (arith, h))
content_some inset name text inner (x ∷ xs) h = refl

tree_parts : (inset : List ℕ) (t : declared.Tree)
    → tree_written inset (seen t) ≡ opened inset (chars (out-Tree t).name) (out-Tree t).attributes
    ++ content_written inset (chars (out-Tree t).name) (flat_map in_text (chars (out-Tree t).text))
    (trees_written (deeper inset) (all_seen (out-Tree t).children.items)) (all_seen (out-Tree t).children.items)
unfolding tree_written
tree_parts inset t = ap (tree_written inset) (seen_parts t)

module _ (inset out mid now name text : List ℕ) (attributes : List Pair) (t : declared.Tree)
    (name_is : name ≡ chars (out-Tree t).name) (attributes_is : attributes ≡ (out-Tree t).attributes) (text_is : text ≡ chars (out-Tree t).text)
    (mid_is : mid ≡ out ++ opened inset name attributes) where
  tree_by : (content : List ℕ) → now ≡ mid ++ content
      → content ≡ content_written inset (chars (out-Tree t).name) (flat_map in_text (chars (out-Tree t).text))
      (trees_written (deeper inset) (all_seen (out-Tree t).children.items)) (all_seen (out-Tree t).children.items)
      → now ≡ out ++ tree_written inset (seen t)
  tree_by content now_is content_is =
      now_is
      ∙ ap (λ m. m ++ content) mid_is
      ∙ append_assoc out (opened inset name attributes) content
      ∙ ap (λ n. out ++ (opened inset n attributes ++ content)) name_is
      ∙ ap (λ ps. out ++ (opened inset (chars (out-Tree t).name) ps ++ content)) attributes_is
      ∙ ap (λ w. out ++ (opened inset (chars (out-Tree t).name) (out-Tree t).attributes ++ w)) content_is
      ∙ ap (λ w. out ++ w) (sym (tree_parts inset t))

  pub tree_without : length (out-Tree t).children.items ≡ 0 → now ≡ mid ++ without_children name (flat_map in_text text)
      → now ≡ out ++ tree_written inset (seen t)
  tree_without none now_is =
      tree_by (without_children name (flat_map in_text text)) now_is
      (ap₂ (λ n s. without_children n (flat_map in_text s)) name_is text_is ∙ sym (content_none inset _ _ _ (out-Tree t).children.items none))

  pub tree_with : (kids : List declared.Tree) → kids ≡ (out-Tree t).children.items → 0 < length (out-Tree t).children.items
      → now ≡ mid ++ with_children inset name (flat_map in_text text) (trees_written (deeper inset) (all_seen kids))
      → now ≡ out ++ tree_written inset (seen t)
  tree_with kids kids_is some now_is =
      tree_by (with_children inset name (flat_map in_text text) (trees_written (deeper inset) (all_seen kids))) now_is
      (ap (λ ts. with_children inset name (flat_map in_text text) (trees_written (deeper inset) (all_seen ts))) kids_is
      ∙ ap₂ (λ n s. with_children inset n (flat_map in_text s) (trees_written (deeper inset) (all_seen (out-Tree t).children.items))) name_is text_is
      ∙ sym (content_some inset _ _ _ (out-Tree t).children.items some))
