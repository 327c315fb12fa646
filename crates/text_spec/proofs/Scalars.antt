-- What is written is characters.
use Rattle.std.proofs.Common.{◌≡◌, ℕ, zero, suc, List, [], ◌∷◌, ◌++◌, Bool, true, false, refl, ◌∙◌, ap, inl, inr}
use Rattle.std.specs.Prelude.{◌&&◌, chars, codes}
use Rattle.std.specs.List.{flat_map}
use Rattle.std.proofs.Math.Utf8.{scalar, scalars}
use Rattle.std.proofs.lemmas.Str.{scalars-chars}
use Rattle.text_spec.specs.declared.pair.Pair.{Pair}
use Rattle.text_spec.specs.Tree.{Tree, element, Trees, none, first}
use Rattle.text_spec.specs.Written.{in_text, in_value, attribute_written, deeper, tree_written, trees_written}
use Rattle.text_spec.specs.Writable.{IsAttribute, AreAttributes, IsTree, AreTrees}
use Rattle.text_spec.proofs.Blanks.{Blanks}
use Rattle.text_spec.proofs.Escapes.{Kind, quote, apostrophe, ampersand, less, greater, plain, kind_of}
use Rattle.text_spec.proofs.Elements.{closing, childless, with_trees, core, core_is}
use Rattle.text_spec.proofs.Nested.{none_written, first_written, deeper_blanks}

both : (a b : Bool) → a ≡ true → b ≡ true → (a && b) ≡ true
both true b p q = q
both false b p q = absurd cc

left_of : (a b : Bool) → (a && b) ≡ true → a ≡ true
left_of true b p = refl
left_of false b p = absurd cc

right_of : (a b : Bool) → (a && b) ≡ true → b ≡ true
right_of true b p = p
right_of false b p = absurd cc

pub joined : (xs ys : List ℕ) → scalars xs ≡ true → scalars ys ≡ true → scalars (xs ++ ys) ≡ true
joined [] ys p q = q
joined (c ∷ xs) ys p q =
    both (scalar c) (scalars (xs ++ ys)) (left_of (scalar c) (scalars xs) p) (joined xs ys (right_of (scalar c) (scalars xs) p) q)

in_value_by : (c : ℕ) → scalar c ≡ true → Kind c → scalars (in_value c) ≡ true
unfolding in_value in_text
in_value_by c is (quote e) = rw e
in_value_by c is (apostrophe e) = rw e
in_value_by c is (ampersand e) = rw e
in_value_by c is (less e) = rw e
in_value_by c is (greater e) = rw e
in_value_by c is (plain p q r s t) = rw (p, q, r, s, t) (both (scalar c) true is refl)

in_text_by : (c : ℕ) → scalar c ≡ true → Kind c → scalars (in_text c) ≡ true
unfolding in_text
in_text_by c is (quote e) = rw e
in_text_by c is (apostrophe e) = rw e
in_text_by c is (ampersand e) = rw e
in_text_by c is (less e) = rw e
in_text_by c is (greater e) = rw e
in_text_by c is (plain p q r s t) = rw (r, s, t) (both (scalar c) true is refl)

values : (v : List ℕ) → scalars v ≡ true → scalars (flat_map in_value v) ≡ true
values [] is = refl
values (c ∷ v) is =
    joined (in_value c) (flat_map in_value v) (in_value_by c (left_of (scalar c) (scalars v) is) (kind_of c)) (values v (right_of (scalar c) (scalars v) is))

texts : (v : List ℕ) → scalars v ≡ true → scalars (flat_map in_text v) ≡ true
texts [] is = refl
texts (c ∷ v) is =
    joined (in_text c) (flat_map in_text v) (in_text_by c (left_of (scalar c) (scalars v) is) (kind_of c)) (texts v (right_of (scalar c) (scalars v) is))

attribute_scalars : (p : Pair) → IsAttribute p → scalars (attribute_written p) ≡ true
attribute_scalars p is =
    let name = 32 ∷ chars p.name in
    let value = flat_map in_value (chars p.value) in
    joined ((name ++ codes "='") ++ value) (39 ∷ [])
    (joined (name ++ codes "='") value (joined name (codes "='") (scalars-chars p.name is.name_utf8) refl) (values (chars p.value) (scalars-chars p.value is.value_utf8)))
    refl

attributes_scalars : (seen : List (List ℕ)) (ps : List Pair) → AreAttributes seen ps → scalars (flat_map attribute_written ps) ≡ true
attributes_scalars seen [] are = refl
attributes_scalars seen (p ∷ ps) are =
    joined (attribute_written p) (flat_map attribute_written ps) (attribute_scalars p are.0) (attributes_scalars (chars p.name ∷ seen) ps are.2)

blanks_scalars : (w : List ℕ) → Blanks w → scalars w ≡ true
blanks_scalars [] b = refl
blanks_scalars (c ∷ w) b = both (scalar c) (scalars w) (elim b.0 [ inl e ↦ rw e | inr e ↦ rw e ]) (blanks_scalars w b.1)

closing_scalars : (n : List ℕ) → scalars n ≡ true → scalars (closing n) ≡ true
closing_scalars n is = joined (60 ∷ 47 ∷ n) (62 ∷ []) is refl

childless_scalars : (n X : List ℕ) → scalars n ≡ true → scalars X ≡ true → scalars (childless n X) ≡ true
childless_scalars n [] p q = refl
childless_scalars n (c ∷ X) p q = joined (62 ∷ c ∷ X) (closing n) q (closing_scalars n p)

core_parts : (n A C : List ℕ) → scalars n ≡ true → scalars A ≡ true → scalars C ≡ true → scalars (60 ∷ (n ++ (A ++ C))) ≡ true
core_parts n A C p q r = joined n (A ++ C) p (joined A C q r)

with_parts : (X inner inset n : List ℕ) → scalars X ≡ true → scalars inner ≡ true → scalars inset ≡ true → scalars n ≡ true
    → scalars (with_trees inset n X inner) ≡ true
with_parts X inner inset n p q r s =
    joined (62 ∷ X) (10 ∷ (inner ++ (inset ++ closing n))) p
    (joined inner (inset ++ closing n) q (joined inset (closing n) r (closing_scalars n s)))

mutual
  pub core_scalars : (depth : ℕ) (inset : List ℕ) (t : Tree) → IsTree depth t → Blanks inset → scalars (core inset t) ≡ true
  core_scalars zero inset t is b = absurd is
  core_scalars (suc depth) inset (element n ps t none) is b =
      let name = scalars-chars n is.0.utf8 in
      core_parts (chars n) (flat_map attribute_written ps) (childless (chars n) (flat_map in_text (chars t))) name (attributes_scalars [] ps is.1)
      (childless_scalars (chars n) (flat_map in_text (chars t)) name (texts (chars t) (scalars-chars t is.2.utf8)))
  core_scalars (suc depth) inset (element n ps t (first kid kids)) is b =
      let name = scalars-chars n is.0.utf8 in
      let inner = trees_written (deeper inset) (first kid kids) in
      core_parts (chars n) (flat_map attribute_written ps) (with_trees inset (chars n) (flat_map in_text (chars t)) inner) name (attributes_scalars [] ps is.1)
      (with_parts (flat_map in_text (chars t)) inner inset (chars n) (texts (chars t) (scalars-chars t is.2.utf8))
      (trees_scalars depth (deeper inset) (first kid kids) is.3 (deeper_blanks inset b)) (blanks_scalars inset b) name)

  pub trees_scalars : (depth : ℕ) (i : List ℕ) (ts : Trees) → AreTrees depth ts → Blanks i → scalars (trees_written i ts) ≡ true
  trees_scalars depth i none is b = ap scalars (none_written i)
  trees_scalars depth i (first t ts) is b =
      ap scalars (first_written i t ts)
      ∙ joined (tree_written i t) (trees_written i ts)
      (ap scalars (core_is i t) ∙ joined i (core i t ++ 10 ∷ []) (blanks_scalars i b) (joined (core i t) (10 ∷ []) (core_scalars depth i t is.0 b) refl))
      (trees_scalars depth i ts is.1 b)
