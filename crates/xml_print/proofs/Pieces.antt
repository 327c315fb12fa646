-- What the pieces of a text leave of a number of bytes.
use Rattle.std.proofs.Common.{◌≡◌, ℕ, ◌+◌, ◌-◌, ◌<◌, ◌≤◌, List, [], ◌∷◌, ◌++◌, Bool, true, false, length, get_or, drop, min, refl, sym, ap, ◌∙◌, cond, arith, length-append}
use Rattle.std.specs.Prelude.{codes, chars, ◌==◌, IsUtf8, encode_utf8_all}
use Rattle.std.specs.List.{flat_map}
use Rattle.std.proofs.lemmas.List.{at_drop_more}
use Rattle.std.proofs.lemmas.Str.{chars-nil, encodes-chars}
use Rattle.text_spec.specs.declared.pair.Pair.{Pair}
use Rattle.text_spec.specs.declared.tree.Tree as declared
use Rattle.text_spec.specs.declared.tree.Tree.{out-Tree}
use Rattle.text_spec.specs.Character.{ampersand, less, greater}
use Rattle.text_spec.specs.Tree.{seen, all_seen, element, trees, none}
use Rattle.text_spec.specs.Written.{in_text, in_value, attribute_written, opened, deeper, without_children, with_children, content_written, tree_written, trees_written}
use Rattle.text_spec.proofs.Seen.{seen_parts}
use Rattle.xml_tables.proofs.Below.text_laws.Lengths.{room_both, room_ascii, empty_room, worded_room, with_room, opened_room, tree_room, none_room, first_room}
use Rattle.xml_print.specs.Room.{room, cap, IsInset}

-- a name takes the bytes that it has
pub spelled : (bs : List ℕ) → IsUtf8 bs → room (chars bs) ≡ length bs
spelled bs is = ap length (encodes-chars bs is)

-- ---- one after another
-- a piece is taken off, and others are left
pub piece_left : {A : Type 0} (f : A → List ℕ) (xs : List A) (n : ℕ) (x : A) (left : ℕ) → n < length xs → x ≡ get_or xs n x
    → (left - room (f x)) - room (flat_map f (drop (n + 1) xs)) ≡ left - room (flat_map f (drop n xs))
piece_left f xs n x left within is =
    let here : room (flat_map f (drop n xs)) ≡ room (f x ++ flat_map f (drop (n + 1) xs)) =
    at_drop_more (λ ys. room (flat_map f ys)) xs n x within ∙ ap (λ y. room (f y ++ flat_map f (drop (n + 1) xs))) (sym is) in
    omega (arith, here, room_both (f x) (flat_map f (drop (n + 1) xs)))

-- ---- attributes
pub attribute_room : (p : Pair) → room (attribute_written p) ≡ 4 + (room (chars p.name) + room (flat_map in_value (chars p.value)))
attribute_room p =
    let n = chars p.name in
    let v = flat_map in_value (chars p.value) in
    omega (
      arith,
      room_both (((32 ∷ n) ++ codes "='") ++ v) (39 ∷ []),
      room_both ((32 ∷ n) ++ codes "='") v,
      room_both (32 ∷ n) (codes "='"),
      room_ascii 32 n (omega arith),
      room_ascii 61 (39 ∷ []) (omega arith),
      room_ascii 39 [] (omega arith),
    )

-- ---- content
some_of : (b : Bool) (x y : List ℕ) → 1 ≤ length x → 1 ≤ length y → 1 ≤ length (cond b x y)
some_of true x y p q = p
some_of false x y p q = q

in_text_some : (c : ℕ) → 1 ≤ length (in_text c)
unfolding in_text
in_text_some c =
    let last = cond (c == greater) (codes "&gt;") (c ∷ []) in
    let next = cond (c == less) (codes "&lt;") last in
    some_of (c == ampersand) (codes "&amp;") next (omega arith)
    (some_of (c == less) (codes "&lt;") last (omega arith) (some_of (c == greater) (codes "&gt;") (c ∷ []) (omega arith) (omega arith)))

text_some : (cs : List ℕ) → 1 ≤ length cs → 1 ≤ length (flat_map in_text cs)
text_some [] h = absurd (omega (arith, h))
text_some (c ∷ cs) h = omega (arith, in_text_some c, length-append (in_text c) (flat_map in_text cs))

chars_some_by : (bs cs : List ℕ) → encode_utf8_all cs ≡ bs → 1 ≤ length bs → 1 ≤ length cs
chars_some_by bs [] e h = absurd (omega (arith, ap length e, h))
chars_some_by bs (c ∷ cs) e h = omega arith

worded_by : (name x : List ℕ) → 1 ≤ length x → room (without_children name x) ≡ 5 + (room x + room name)
worded_by name [] h = absurd (omega (arith, h))
worded_by name (c ∷ x) h = worded_room name c x

pub leaf_some : (name text : List ℕ) → IsUtf8 text → 1 ≤ length text
    → room (without_children name (flat_map in_text (chars text))) ≡ 5 + (room (flat_map in_text (chars text)) + room name)
leaf_some name text is h =
    worded_by name (flat_map in_text (chars text)) (text_some (chars text) (chars_some_by text (chars text) (encodes-chars text is) h))

pub leaf_none : (name text : List ℕ) → length text ≡ 0 → room (without_children name (flat_map in_text (chars text))) ≡ 3
leaf_none name [] h = ap (λ cs. room (without_children name (flat_map in_text cs))) chars-nil ∙ empty_room
leaf_none name (c ∷ text) h = absurd (omega (arith, h))

-- ---- elements
childless : (blanks name text inner : List ℕ) (ts : List declared.Tree) → length ts ≡ 0
    → content_written blanks name text inner (all_seen ts) ≡ without_children name text
childless blanks name text inner [] e = refl
childless blanks name text inner (t ∷ ts) e = absurd (omega (arith, e))

parental : (blanks name text inner : List ℕ) (ts : List declared.Tree) → 1 ≤ length ts
    → content_written blanks name text inner (all_seen ts) ≡ with_children blanks name text inner
parental blanks name text inner [] h = absurd (omega (arith, h))
parental blanks name text inner (t ∷ ts) h = refl

abbrev children : declared.Tree → List declared.Tree
children t = (out-Tree t).children.items

whole_room : (blanks : List ℕ) (t : declared.Tree) → room (tree_written blanks (seen t))
    ≡ room (opened blanks (chars (out-Tree t).name) (out-Tree t).attributes)
    + room (content_written blanks (chars (out-Tree t).name) (flat_map in_text (chars (out-Tree t).text))
    (trees_written (deeper blanks) (all_seen (children t))) (all_seen (children t)))
whole_room blanks t =
    let p = out-Tree t in
    ap (λ x. room (tree_written blanks x)) (seen_parts t) ∙ tree_room blanks p.name p.attributes p.text (all_seen (children t))

pub deeper_inset : (inset : ℕ) (blanks : List ℕ) → IsInset inset blanks → IsInset (min (inset + 2) cap) (deeper blanks)
deeper_inset inset blanks is =
    omega (arith, room_both blanks (32 ∷ 32 ∷ []), room_ascii 32 (32 ∷ []) (omega arith), room_ascii 32 [] (omega arith))

module _ (left inset : ℕ) (blanks : List ℕ) (t : declared.Tree) (small : left ≤ cap) (is : IsInset inset blanks) where
  pub tree_childless : (rest : ℕ) → length (children t) ≡ 0
      → rest ≡ ((((left - inset) - 1) - room (chars (out-Tree t).name)) - room (flat_map attribute_written (out-Tree t).attributes))
      - room (without_children (chars (out-Tree t).name) (flat_map in_text (chars (out-Tree t).text)))
      → rest ≡ left - room (tree_written blanks (seen t))
  tree_childless rest bare now =
      let p = out-Tree t in
      let inner = trees_written (deeper blanks) (all_seen (children t)) in
      let content = ap room (childless blanks (chars p.name) (flat_map in_text (chars p.text)) inner (children t) bare) in
      omega (arith, whole_room blanks t, opened_room blanks (chars p.name) p.attributes, content)

  pub tree_parental : (rest : ℕ) → 1 ≤ length (children t)
      → rest ≡ ((((((((left - inset) - 1) - room (chars (out-Tree t).name)) - room (flat_map attribute_written (out-Tree t).attributes))
      - room (flat_map in_text (chars (out-Tree t).text))) - room (trees_written (deeper blanks) (all_seen (children t))))
      - room (chars (out-Tree t).name)) - inset) - 6
      → rest ≡ left - room (tree_written blanks (seen t))
  tree_parental rest some now =
      let p = out-Tree t in
      let inner = trees_written (deeper blanks) (all_seen (children t)) in
      let x = flat_map in_text (chars p.text) in
      let content = ap room (parental blanks (chars p.name) x inner (children t) some) in
      omega (arith, whole_room blanks t, opened_room blanks (chars p.name) p.attributes, content, with_room blanks (chars p.name) x inner)

-- elements one after another
pub element_left : (blanks : List ℕ) (xs : List declared.Tree) (n : ℕ) (x : declared.Tree) (left rest : ℕ) → n < length xs → x ≡ get_or xs n x
    → rest ≡ left - room (tree_written blanks (seen x))
    → rest - room (trees_written blanks (all_seen (drop (n + 1) xs))) ≡ left - room (trees_written blanks (all_seen (drop n xs)))
element_left blanks xs n x left rest within is now =
    let here : room (trees_written blanks (all_seen (drop n xs))) ≡ room (trees_written blanks (all_seen (x ∷ drop (n + 1) xs))) =
    at_drop_more (λ ys. room (trees_written blanks (all_seen ys))) xs n x within
    ∙ ap (λ y. room (trees_written blanks (all_seen (y ∷ drop (n + 1) xs)))) (sym is) in
    omega (arith, here, first_room blanks (seen x) (all_seen (drop (n + 1) xs)), now)
