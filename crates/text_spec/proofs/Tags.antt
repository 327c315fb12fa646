-- Tags that were written are read.
use Rattle.std.proofs.Common.{◌≡◌, ℕ, zero, suc, ◌+◌, ◌<◌, List, [], ◌∷◌, ◌++◌, length, Bool, true, false, true≢false, Some, Ok, refl, sym, ◌∙◌, ap, ap₂, arith, length-append, ne_eqb, append_assoc}
use Rattle.std.specs.Prelude.{chars}
use Rattle.std.specs.List.{flat_map}
use Rattle.std.proofs.lemmas.Str.{encodes-chars}
use Rattle.text_spec.specs.declared.fault.Flaw.{Flaw}
use Rattle.text_spec.specs.declared.fault.TextKind.TheVariants as kind
use Rattle.text_spec.specs.declared.pair.Pair.{Pair}
use Rattle.text_spec.specs.Character.{is_name_start, is_name_char, is_blank, after_blanks}
use Rattle.text_spec.specs.Reading.{flaw, expect, ◌>>=◌}
use Rattle.text_spec.specs.Declaration.{equals_at}
use Rattle.text_spec.specs.Tag.{quoted_at, is_among, valued_at, attribute_at, attribute_of, after_attributes, tag_end_at, attributes_at, opening_tag_at, closing_tag_at}
use Rattle.text_spec.specs.Name.{name_at}
use Rattle.text_spec.specs.Written.{in_value, attribute_written}
use Rattle.text_spec.specs.Writable.{IsName, IsAttribute, AreAttributes}
use Rattle.text_spec.proofs.Words.{name_back, expect_word}
use Rattle.text_spec.proofs.Escapes.{value_back}

pub not_start : (x a : ℕ) → is_name_start x ≡ true → is_name_start a ≡ false → x ≡ a → ⊥
not_start x a is no_start e = true≢false (sym is ∙ ap is_name_start e ∙ no_start)

-- a name begins with no blank and no end of a tag
pub record Begins (x : ℕ) : Type 0 where
  pub blank : is_blank x ≡ false
  pub greater : x ≡ 62 → ⊥
  pub slash : x ≡ 47 → ⊥
  pub bang : x ≡ 33 → ⊥
  pub question : x ≡ 63 → ⊥

pub begins : (x : ℕ) → is_name_start x ≡ true → Begins x
unfolding is_name_start
begins x is = record {
  blank = rw (ne_eqb x 32 (not_start x 32 is refl), ne_eqb x 10 (not_start x 10 is refl), ne_eqb x 9 (not_start x 9 is refl), ne_eqb x 13 (not_start x 13 is refl));
  greater = not_start x 62 is refl;
  slash = not_start x 47 is refl;
  bang = not_start x 33 is refl;
  question = not_start x 63 is refl;
}

pub name_begins : (n : List ℕ) → IsName n → (x : ℕ) × (xs : List ℕ) × (n ≡ x ∷ xs) × (is_name_start x ≡ true)
name_begins [] is = absurd is
name_begins (x ∷ xs) is = (x, xs, refl, is.0)

no_name_char : is_name_char 61 ≡ false
unfolding is_name_char is_name_start
no_name_char = refl

pub attribute_form : (p : Pair) (rest : List ℕ)
    → attribute_written p ++ rest ≡ 32 ∷ (chars p.name ++ 61 ∷ 39 ∷ (flat_map in_value (chars p.value) ++ 39 ∷ rest))
attribute_form p rest = simp append_assoc

attribute_back : (told : Flaw) (seen : List (List ℕ)) (p : Pair) (rest : List ℕ) → IsAttribute p → is_among (chars p.name) seen ≡ false
    → attribute_at told seen (chars p.name ++ 61 ∷ 39 ∷ (flat_map in_value (chars p.value) ++ 39 ∷ rest)) ≡ Ok ((chars p.name, chars p.value), rest)
unfolding attribute_at valued_at equals_at expect after_blanks quoted_at
attribute_back told seen p rest is fresh =
    let w = flat_map in_value (chars p.value) ++ 39 ∷ rest in
    rw (name_back told (chars p.name) 61 (39 ∷ w) is.name no_name_char, fresh, value_back (length w) told (chars p.value) rest is.value (omega arith))

pair_back : (p : Pair) → IsAttribute p → attribute_of (chars p.name, chars p.value) ≡ p
pair_back p is = ap₂ (λ a b. record { name = a; value = b }) (encodes-chars p.name is.name_utf8) (encodes-chars p.value is.value_utf8)

attribute_step : (k : ℕ) (start : List ℕ) (seen : List (List ℕ)) (cs : List ℕ) (x : ℕ) (xs : List ℕ) → cs ≡ x ∷ xs → is_name_start x ≡ true
    → attributes_at (suc k) start seen (32 ∷ cs)
    ≡ (attribute_at (flaw kind.Attribute start) seen cs >>= λ a. after_attributes (attribute_of a.0 ∷ []) (attributes_at k start (a.0.0 ∷ seen) a.1))
unfolding attributes_at after_blanks tag_end_at
attribute_step k start seen cs x xs e is =
    let b = begins x is in
    rw (e, b.blank, ne_eqb x 62 b.greater, ne_eqb x 47 b.slash)

-- what ends a tag
pub record TagEnd (tail : List ℕ) (empty : Bool) (rest : List ℕ) : Type 0 where
  pub first : ℕ
  pub others : List ℕ
  pub is : tail ≡ first ∷ others
  pub no_name : is_name_char first ≡ false
  pub bare : after_blanks tail ≡ tail
  pub ends : (told : Flaw) → tag_end_at told tail ≡ Ok (Some (empty, rest))

module _ (start tail : List ℕ) (empty : Bool) (rest : List ℕ) (end : TagEnd tail empty rest) where
  pub attributes_back : (k : ℕ) (seen : List (List ℕ)) (ps : List Pair) → AreAttributes seen ps
      → length (flat_map attribute_written ps ++ tail) < k
      → attributes_at k start seen (flat_map attribute_written ps ++ tail) ≡ Ok ((ps, empty), rest)
  unfolding attributes_at
  attributes_back zero seen ps are enough = absurd (omega (arith, enough))
  attributes_back (suc k) seen [] are enough = rw (end.bare, end.ends (flaw kind.Tag start))
  attributes_back (suc k) seen (p ∷ ps) are enough =
      let more = flat_map attribute_written ps ++ tail in
      let values = flat_map in_value (chars p.value) ++ 39 ∷ more in
      let named = name_begins (chars p.name) are.0.name in
      let whole : flat_map attribute_written (p ∷ ps) ++ tail ≡ 32 ∷ (chars p.name ++ 61 ∷ 39 ∷ values) =
      append_assoc (attribute_written p) (flat_map attribute_written ps) tail ∙ attribute_form p more in
      let front : chars p.name ++ 61 ∷ 39 ∷ values ≡ named.0 ∷ named.1 ++ 61 ∷ 39 ∷ values = ap (λ n. n ++ 61 ∷ 39 ∷ values) named.2 in
      let shorter : length more < k = omega (arith, enough, ap length whole, length-append (chars p.name) (61 ∷ 39 ∷ values), length-append (flat_map in_value (chars p.value)) (39 ∷ more)) in
      ap (attributes_at (suc k) start seen) whole
      ∙ attribute_step k start seen (chars p.name ++ 61 ∷ 39 ∷ values) named.0 (named.1 ++ 61 ∷ 39 ∷ values) front named.3
      ∙ rw (attribute_back (flaw kind.Attribute start) seen p more are.0 are.1, attributes_back k (chars p.name ∷ seen) ps are.2 shorter)
      (ap (λ q. Ok ((q ∷ ps, empty), rest)) (pair_back p are.0))

-- ---- whole tags
pub full_end : (rest : List ℕ) → TagEnd (62 ∷ rest) false rest
unfolding is_name_char is_name_start after_blanks tag_end_at
full_end rest = record { first = 62; others = rest; is = refl; no_name = refl; bare = refl; ends = λ told. refl }

pub empty_end : (rest : List ℕ) → TagEnd (47 ∷ 62 ∷ rest) true rest
unfolding is_name_char is_name_start after_blanks tag_end_at expect
empty_end rest = record { first = 47; others = 62 ∷ rest; is = refl; no_name = refl; bare = refl; ends = λ told. refl }

no_name_blank : is_name_char 32 ≡ false
unfolding is_name_char is_name_start
no_name_blank = refl

name_before : (told : Flaw) (n cs : List ℕ) (z : ℕ) (zs : List ℕ) → cs ≡ z ∷ zs → IsName n → is_name_char z ≡ false → name_at told (n ++ cs) ≡ Ok (n, cs)
name_before told n cs z zs e is stop = rw e (name_back told n z zs is stop)

name_then : (told : Flaw) (n : List ℕ) (ps : List Pair) (tail : List ℕ) (empty : Bool) (rest : List ℕ) → TagEnd tail empty rest → IsName n
    → name_at told (n ++ (flat_map attribute_written ps ++ tail)) ≡ Ok (n, flat_map attribute_written ps ++ tail)
name_then told n [] tail empty rest end is = name_before told n tail end.first end.others end.is is end.no_name
name_then told n (p ∷ ps) tail empty rest end is =
    let whole = append_assoc (attribute_written p) (flat_map attribute_written ps) tail ∙ attribute_form p (flat_map attribute_written ps ++ tail) in
    name_before told n (flat_map attribute_written (p ∷ ps) ++ tail) 32 _ whole is no_name_blank

pub opening_back : (n : List ℕ) (ps : List Pair) (tail : List ℕ) (empty : Bool) (rest : List ℕ) → IsName n → AreAttributes [] ps → TagEnd tail empty rest
    → opening_tag_at (60 ∷ n ++ (flat_map attribute_written ps ++ tail)) ≡ Ok (record { name = n; attributes = ps; is_empty = empty }, rest)
unfolding opening_tag_at
opening_back n ps tail empty rest is are end =
    let start = 60 ∷ n ++ (flat_map attribute_written ps ++ tail) in
    rw (name_then (flaw kind.Tag start) n ps tail empty rest end is, attributes_back start tail empty rest end (length (flat_map attribute_written ps ++ tail) + 1) [] ps are (omega arith))

pub closing_back : (n rest : List ℕ) → closing_tag_at n (60 ∷ 47 ∷ n ++ 62 ∷ rest) ≡ Ok rest
unfolding closing_tag_at after_blanks expect
closing_back n rest = rw (expect_word (flaw kind.Tag (60 ∷ 47 ∷ n ++ 62 ∷ rest)) n (62 ∷ rest))
