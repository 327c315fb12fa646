-- Trees whose texts are no longer than those of others.
use Rattle.std.proofs.Common.{◌≡◌, ℕ, ◌+◌, ◌<◌, ◌≤◌, List, [], ◌∷◌, ◌++◌, length, Bool, true, false, refl, ◌∙◌, ap, arith, length-append}
use Rattle.std.specs.Prelude.{◌&&◌, nat_le, codes, chars, map, encode_utf8_all}
use Rattle.std.specs.List.{flat_map}
use Rattle.std.proofs.lemmas.Bool.Decides.{nat_tests}
use Rattle.std.proofs.lemmas.Str.{encodes-append, encode_ascii, length-le-encodes}
use Rattle.text_spec.specs.declared.pair.Pair.{Pair}
use Rattle.text_spec.specs.declared.vocabulary.ElementName.{ElementName}
use Rattle.text_spec.specs.Spelling.{filled, fits}
use Rattle.text_spec.specs.Text.{most_bytes, most_elements}
use Rattle.text_spec.specs.Tree.{Tree, element, Trees, none, first, trees}
use Rattle.text_spec.specs.Vocabulary.{element_word}
use Rattle.text_spec.specs.Writable.{size, sizes}
use Rattle.text_spec.specs.Written.{in_text, attribute_written, closing, without_children, with_children, content_written, deeper, opened, tree_written, trees_written, written}
use Rattle.text_laws.proofs.Parts.{both_of}

-- the bytes of characters
abbrev pub room : List ℕ → ℕ
room cs = length (encode_utf8_all cs)

pub room_both : (xs ys : List ℕ) → room (xs ++ ys) ≡ room xs + room ys
room_both xs ys = ap length (encodes-append xs ys) ∙ length-append (encode_utf8_all xs) (encode_utf8_all ys)

room_some : (c : ℕ) (cs : List ℕ) → 1 ≤ room (c ∷ cs)
room_some c cs = omega (arith, length-le-encodes (c ∷ cs))

pub room_ascii : (c : ℕ) (cs : List ℕ) → c < 128 → room (c ∷ cs) ≡ 1 + room cs
room_ascii c cs small = ap (λ xs. length (xs ++ encode_utf8_all cs)) (encode_ascii c small) ∙ omega arith

-- ---- an element's content
pub closing_room : (name : List ℕ) → room (closing name) ≡ 4 + room name
closing_room name =
    omega (
      arith,
      room_both (60 ∷ 47 ∷ name) (62 ∷ 10 ∷ []),
      room_ascii 60 (47 ∷ name) (omega arith),
      room_ascii 47 name (omega arith),
      room_ascii 62 (10 ∷ []) (omega arith),
      room_ascii 10 [] (omega arith),
    )

pub empty_room : room (codes "/>" ++ 10 ∷ []) ≡ 3
empty_room =
    omega (arith, room_ascii 47 (62 ∷ 10 ∷ []) (omega arith), room_ascii 62 (10 ∷ []) (omega arith), room_ascii 10 [] (omega arith))

pub worded_room : (name : List ℕ) (c : ℕ) (x : List ℕ) → room (without_children name (c ∷ x)) ≡ 5 + (room (c ∷ x) + room name)
worded_room name c x = omega (arith, room_both (62 ∷ c ∷ x) (closing name), room_ascii 62 (c ∷ x) (omega arith), closing_room name)

pub with_room : (inset name x inner : List ℕ) → room (with_children inset name x inner) ≡ 6 + (room x + (room inner + (room inset + room name)))
with_room inset name x inner =
    omega (
      arith,
      closing_room name,
      room_both (((62 ∷ x) ++ (10 ∷ inner)) ++ inset) (closing name),
      room_both ((62 ∷ x) ++ (10 ∷ inner)) inset,
      room_both (62 ∷ x) (10 ∷ inner),
      room_ascii 62 x (omega arith),
      room_ascii 10 inner (omega arith),
    )

without_less : (name x y : List ℕ) → room x ≤ room y → room (without_children name x) ≤ room (without_children name y)
without_less name [] [] h = omega arith
without_less name [] (d ∷ y) h = omega (arith, empty_room, worded_room name d y)
without_less name (c ∷ x) [] h = absurd (omega (arith, room_some c x, h))
without_less name (c ∷ x) (d ∷ y) h = omega (arith, worded_room name c x, worded_room name d y, h)

with_more : (inset name x y inner : List ℕ) → room x ≤ room y → room (without_children name x) ≤ room (with_children inset name y inner)
with_more inset name [] y inner h = omega (arith, empty_room, with_room inset name y inner)
with_more inset name (c ∷ x) y inner h = omega (arith, worded_room name c x, with_room inset name y inner, h)

with_less : (inset name x y inner outer : List ℕ) → room x ≤ room y → room inner ≤ room outer
    → room (with_children inset name x inner) ≤ room (with_children inset name y outer)
with_less inset name x y inner outer h k = omega (arith, with_room inset name x inner, with_room inset name y outer, h, k)

pub size_some : (t : Tree) → 1 ≤ size t
size_some (element name attributes text children) = omega arith

content_less : (inset name x y inner outer : List ℕ) (ts us : Trees) → room x ≤ room y → room inner ≤ room outer → sizes ts ≤ sizes us
    → room (content_written inset name x inner ts) ≤ room (content_written inset name y outer us)
content_less inset name x y inner outer none none h k s = without_less name x y h
content_less inset name x y inner outer none (first u us) h k s = with_more inset name x y outer h
content_less inset name x y inner outer (first t ts) none h k s = absurd (omega (arith, size_some t, s))
content_less inset name x y inner outer (first t ts) (first u us) h k s = with_less inset name x y inner outer h k

-- ---- elements
-- elements one after another, whatever blanks come before them
pub record AreNoLonger (ts us : List Tree) : Type 0 where
  pub bytes : (inset : List ℕ) → room (trees_written inset (trees ts)) ≤ room (trees_written inset (trees us))
  pub elements : sizes (trees ts) ≤ sizes (trees us)

abbrev pub attributes_room : List Pair → ℕ
attributes_room ps = room (flat_map attribute_written ps)

abbrev pub text_room : List ℕ → ℕ
text_room x = room (flat_map in_text (chars x))

pub opened_room : (inset name : List ℕ) (ps : List Pair) → room (opened inset name ps) ≡ 1 + (room inset + (room name + attributes_room ps))
opened_room inset name ps =
    omega (
      arith,
      room_both (inset ++ (60 ∷ name)) (flat_map attribute_written ps),
      room_both inset (60 ∷ name),
      room_ascii 60 name (omega arith),
    )

pub tree_room : (inset name : List ℕ) (ps : List Pair) (x : List ℕ) (ts : Trees) → room (tree_written inset (element name ps x ts))
    ≡ room (opened inset (chars name) ps) + room (content_written inset (chars name) (flat_map in_text (chars x)) (trees_written (deeper inset) ts) ts)
unfolding tree_written
tree_room inset name ps x ts =
    room_both (opened inset (chars name) ps) (content_written inset (chars name) (flat_map in_text (chars x)) (trees_written (deeper inset) ts) ts)

pub none_room : (inset : List ℕ) → room (trees_written inset none) ≡ 0
unfolding trees_written
none_room inset = refl

pub first_room : (inset : List ℕ) (t : Tree) (ts : Trees) → room (trees_written inset (first t ts)) ≡ room (tree_written inset t) + room (trees_written inset ts)
unfolding trees_written
first_room inset t ts = room_both (tree_written inset t) (trees_written inset ts)

trees_room : (inset : List ℕ) (ts us : List Tree) → room (trees_written inset (trees (ts ++ us))) ≡ room (trees_written inset (trees ts)) + room (trees_written inset (trees us))
trees_room inset [] us = omega (arith, none_room inset)
trees_room inset (t ∷ ts) us = omega (arith, first_room inset t (trees (ts ++ us)), first_room inset t (trees ts), trees_room inset ts us)

trees_size : (ts us : List Tree) → sizes (trees (ts ++ us)) ≡ sizes (trees ts) + sizes (trees us)
trees_size [] us = omega arith
trees_size (t ∷ ts) us = omega (arith, trees_size ts us)

pub as_long : (ts : List Tree) → AreNoLonger ts ts
as_long ts = record { bytes = λ inset. omega arith; elements = omega arith }

pub none_longer : (ts : List Tree) → AreNoLonger [] ts
none_longer ts = record { bytes = λ inset. omega (arith, none_room inset); elements = omega arith }

pub both_longer : (ts us vs ws : List Tree) → AreNoLonger ts us → AreNoLonger vs ws → AreNoLonger (ts ++ vs) (us ++ ws)
both_longer ts us vs ws a b = record {
  bytes = λ inset. omega (arith, trees_room inset ts vs, trees_room inset us ws, a.bytes inset, b.bytes inset);
  elements = omega (arith, trees_size ts vs, trees_size us ws, a.elements, b.elements);
}

pub filled_longer : (n : ElementName) (ps qs : List Pair) (x y : List ℕ) (ts us : List Tree)
    → attributes_room ps ≤ attributes_room qs → text_room x ≤ text_room y → AreNoLonger ts us
    → AreNoLonger (filled n ps x ts ∷ []) (filled n qs y us ∷ [])
filled_longer n ps qs x y ts us attributes text a = record {
  bytes = λ inset. omega (
    arith,
    first_room inset (filled n ps x ts) none,
    first_room inset (filled n qs y us) none,
    tree_room inset (element_word n) ps x (trees ts),
    tree_room inset (element_word n) qs y (trees us),
    opened_room inset (chars (element_word n)) ps,
    opened_room inset (chars (element_word n)) qs,
    content_less inset (chars (element_word n)) (flat_map in_text (chars x)) (flat_map in_text (chars y))
        (trees_written (deeper inset) (trees ts)) (trees_written (deeper inset) (trees us)) (trees ts) (trees us) text (a.bytes (deeper inset)) a.elements,
    attributes,
  );
  elements = omega (arith, a.elements);
}

pub mapped_longer : {A : Type 0} (f g : A → Tree) (xs : List A) → ((x : A) → AreNoLonger (f x ∷ []) (g x ∷ [])) → AreNoLonger (map f xs) (map g xs)
mapped_longer f g [] each = as_long []
mapped_longer f g (x ∷ xs) each = both_longer (f x ∷ []) (g x ∷ []) (map f xs) (map g xs) (each x) (mapped_longer f g xs each)

-- ---- within the limits
no_more : (n m most : ℕ) → n ≤ m → nat_le m most ≡ true → nat_le n most ≡ true
no_more n m most h e = grind (arith, nat_tests)

both_true : (a b : Bool) → a ≡ true → b ≡ true → (a && b) ≡ true
both_true true b p q = q
both_true false b p q = absurd cc

pub fits_too : (t u : Tree) → AreNoLonger (t ∷ []) (u ∷ []) → fits u ≡ true → fits t ≡ true
unfolding fits
fits_too t u a e =
    let parts = both_of (nat_le (length (written u)) most_bytes) (nat_le (size u) most_elements) e in
    let bytes : length (written t) ≤ length (written u) = omega (arith, a.bytes [], first_room [] t none, first_room [] u none) in
    let elements : size t ≤ size u = omega (arith, a.elements) in
    both_true _ _ (no_more (length (written t)) (length (written u)) most_bytes bytes parts.0) (no_more (size t) (size u) most_elements elements parts.1)
