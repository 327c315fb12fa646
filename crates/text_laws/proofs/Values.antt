-- Names, references, values and tags that were read.
use Rattle.std.proofs.Common.{◌≡◌, ℕ, zero, suc, ◌+◌, ◌*◌, List, [], ◌∷◌, ◌++◌, Bool, true, false, Some, None, Option, Err, cond, refl, ◌∙◌, sym, ap, subst, inl, inr, arith, length, take, drop}
use Rattle.std.specs.Prelude.{◌&&◌, ◌==◌, not, nat_lt, chars, codes, encode_utf8_all, if◌then◌else◌}
use Rattle.std.specs.Char.{digit_value}
use Rattle.std.specs.List.{AllByRecursion, prefix_len}
use Rattle.std.proofs.lemmas.Str.{chars-encodes}
use Rattle.text_spec.specs.declared.fault.Flaw.{Flaw}
use Rattle.text_spec.specs.declared.fault.TextKind.TheVariants as kind
use Rattle.text_spec.specs.declared.pair.Pair.{Pair}
use Rattle.text_spec.specs.Reading.{◌>>=◌, flaw, expect}
use Rattle.text_spec.specs.Character.{ampersand, hash, semicolon, less, greater, quote, apostrophe, is_char, is_name_start, is_name_char, after_blanks, starts_blank}
use Rattle.text_spec.specs.Name.{front, name_at}
use Rattle.text_spec.specs.Reference.{greatest, number_end, number_at, numbered, named, named_a, after_ampersand, reference_at}
use Rattle.text_spec.specs.Declaration.{equals_at, quote_at}
use Rattle.text_spec.specs.Tag.{behind, value_char_at, value_at, quoted_at, is_among, valued_at, attribute_at, attribute_of, Attributes, after_attributes, tag_end_at, in_tag, attributes_at, Tag, opening_tag_at}
use Rattle.text_spec.specs.Writable.{AreChars, IsName, IsAttribute, AreAttributes}
use Rattle.text_laws.proofs.Parts.{bound, right, same_ok, chosen, passed, kept, both_of}
use Rattle.text_laws.proofs.Allowed.{chars_scalars, name_scalars, utf8_of}

-- ---- names
module _ (p : ℕ → Bool) (c : ℕ) (cs : List ℕ) where
  prefix_true : p c ≡ true → take (prefix_len p (c ∷ cs)) (c ∷ cs) ≡ c ∷ take (prefix_len p cs) cs
  prefix_true e =
      let n : prefix_len p (c ∷ cs) ≡ suc (prefix_len p cs) = ap (λ b. cond b (1 + prefix_len p cs) 0) e ∙ omega arith in
      ap (λ k. take k (c ∷ cs)) n

  prefix_false : p c ≡ false → take (prefix_len p (c ∷ cs)) (c ∷ cs) ≡ []
  prefix_false e =
      let n : prefix_len p (c ∷ cs) ≡ 0 = ap (λ b. cond b (1 + prefix_len p cs) 0) e in
      ap (λ k. take k (c ∷ cs)) n

  prefix_by : (b : Bool) → p c ≡ b → AllByRecursion (λ x. p x ≡ true) (take (prefix_len p cs) cs)
      → AllByRecursion (λ x. p x ≡ true) (take (prefix_len p (c ∷ cs)) (c ∷ cs))
  prefix_by true e all = subst (AllByRecursion (λ x. p x ≡ true)) (sym (prefix_true e)) (e, all)
  prefix_by false e all = subst (AllByRecursion (λ x. p x ≡ true)) (sym (prefix_false e)) tt

pub prefix_all : (p : ℕ → Bool) (cs : List ℕ) → AllByRecursion (λ c. p c ≡ true) (take (prefix_len p cs) cs)
prefix_all p [] = tt
prefix_all p (c ∷ cs) = prefix_by p c cs (p c) refl (prefix_all p cs)

goes_on : (c : ℕ) → is_name_start c ≡ true → is_name_char c ≡ true
unfolding is_name_char
goes_on c is = rw is

pub fronted : (n : ℕ) (cs : List ℕ) (r : List ℕ × List ℕ) → front n cs ≡ right r → take n cs ≡ r.0
fronted n cs r e =
    let p = passed (nat_lt n (length cs)) (right (take n cs, drop n cs)) _ r e in
    ap (λ q. q.0) (same_ok (take n cs, drop n cs) r p.1)

pub name_good : (told : Flaw) (cs : List ℕ) (r : List ℕ × List ℕ) → name_at told cs ≡ right r → IsName r.0
unfolding name_at
name_good told [] r e = absurd cc
name_good told (c ∷ cs) r e =
    let p = passed (is_name_start c) (front (prefix_len is_name_char (c ∷ cs)) (c ∷ cs)) told r e in
    let go = goes_on c p.0 in
    let spelled : r.0 ≡ c ∷ take (prefix_len is_name_char cs) cs =
    sym (fronted (prefix_len is_name_char (c ∷ cs)) (c ∷ cs) r p.1) ∙ prefix_true is_name_char c cs go in
    subst IsName (sym spelled) (p.0, (go, prefix_all is_name_char cs))

-- ---- references
number_end_good : (told : Flaw) (number : ℕ) (some : Bool) (c : ℕ) (cs : List ℕ) (r : ℕ × List ℕ)
    → number_end told number some c cs ≡ right r → is_char r.0 ≡ true
number_end_good told number some c cs r e =
    let p = passed ((c == semicolon) && (some && is_char number)) (right (number, cs)) told r e in
    let parts = both_of (c == semicolon) (some && is_char number) p.0 in
    let is = (both_of some (is_char number) parts.1).1 in
    subst (λ n. is_char n ≡ true) (ap (λ q. q.0) (same_ok (number, cs) r p.1)) is

number_good : (base : ℕ) (told : Flaw) (so_far : ℕ) (some : Bool) (cs : List ℕ) (r : ℕ × List ℕ)
    → number_at base told so_far some cs ≡ right r → is_char r.0 ≡ true
unfolding number_at
number_good base told so_far some [] r e = absurd cc
number_good base told so_far some (c ∷ cs) r e =
    let next = base * so_far + digit_value c in
    elim (chosen (nat_lt (digit_value c) base) (if nat_lt greatest next then Err told else number_at base told next true cs)
    (number_end told so_far some c cs) (right r) e) [
      | inl digit ↦ number_good base told next true cs r (kept (nat_lt greatest next) (number_at base told next true cs) told r digit.1).1
      | inr end ↦ number_end_good told so_far some c cs r end.1
    ]

numbered_good : (told : Flaw) (cs : List ℕ) (r : ℕ × List ℕ) → numbered told cs ≡ right r → is_char r.0 ≡ true
numbered_good told [] r e = absurd cc
numbered_good told (c ∷ cs) r e =
    elim (chosen (c == 120) (number_at 16 told 0 false cs) (number_at 10 told 0 false (c ∷ cs)) (right r) e) [
      | inl hexadecimal ↦ number_good 16 told 0 false cs r hexadecimal.1
      | inr decimal ↦ number_good 10 told 0 false (c ∷ cs) r decimal.1
    ]

named_good : (told : Flaw) (character : ℕ) (name cs : List ℕ) (r : ℕ × List ℕ) → is_char character ≡ true
    → named told character name cs ≡ right r → is_char r.0 ≡ true
named_good told character name cs r is e =
    let b = bound (expect told name cs) (λ rest. right (character, rest)) r e in
    subst (λ n. is_char n ≡ true) (ap (λ q. q.0) (same_ok (character, b.value) r b.behind)) is

ampersand_is : is_char ampersand ≡ true
unfolding is_char
ampersand_is = refl

apostrophe_is : is_char apostrophe ≡ true
unfolding is_char
apostrophe_is = refl

less_is : is_char less ≡ true
unfolding is_char
less_is = refl

greater_is : is_char greater ≡ true
unfolding is_char
greater_is = refl

quote_is : is_char quote ≡ true
unfolding is_char
quote_is = refl

named_a_good : (told : Flaw) (cs : List ℕ) (r : ℕ × List ℕ) → named_a told cs ≡ right r → is_char r.0 ≡ true
named_a_good told [] r e = absurd cc
named_a_good told (c ∷ cs) r e =
    elim (chosen (c == 109) (named told ampersand (codes "p;") cs) (if c == 112 then named told apostrophe (codes "os;") cs else Err told) (right r) e) [
      | inl amp ↦ named_good told ampersand (codes "p;") cs r ampersand_is amp.1
      | inr more ↦ named_good told apostrophe (codes "os;") cs r apostrophe_is (passed (c == 112) (named told apostrophe (codes "os;") cs) told r more.1).1
    ]

after_ampersand_good : (told : Flaw) (cs : List ℕ) (r : ℕ × List ℕ) → after_ampersand told cs ≡ right r → is_char r.0 ≡ true
unfolding after_ampersand
after_ampersand_good told [] r e = absurd cc
after_ampersand_good told (c ∷ cs) r e =
    let q = if c == 113 then named told quote (codes "uot;") cs else Err told in
    let g = if c == 103 then named told greater (codes "t;") cs else q in
    let l = if c == 108 then named told less (codes "t;") cs else g in
    let a = if c == 97 then named_a told cs else l in
    elim (chosen (c == hash) (numbered told cs) a (right r) e) [
      | inl number ↦ numbered_good told cs r number.1
      | inr two ↦ elim (chosen (c == 97) (named_a told cs) l (right r) two.1) [
        | inl amp ↦ named_a_good told cs r amp.1
        | inr three ↦ elim (chosen (c == 108) (named told less (codes "t;") cs) g (right r) three.1) [
          | inl lt ↦ named_good told less (codes "t;") cs r less_is lt.1
          | inr four ↦ elim (chosen (c == 103) (named told greater (codes "t;") cs) q (right r) four.1) [
            | inl gt ↦ named_good told greater (codes "t;") cs r greater_is gt.1
            | inr five ↦ named_good told quote (codes "uot;") cs r quote_is (passed (c == 113) (named told quote (codes "uot;") cs) told r five.1).1
          ]
        ]
      ]
    ]

pub reference_good : (cs : List ℕ) (r : ℕ × List ℕ) → reference_at cs ≡ right r → is_char r.0 ≡ true
unfolding reference_at
reference_good [] r e = absurd cc
reference_good (c ∷ cs) r e = after_ampersand_good (flaw kind.Reference (c ∷ cs)) cs r e

-- ---- values
value_char_good : (told : Flaw) (cs : List ℕ) (r : ℕ × List ℕ) → value_char_at told cs ≡ right r → is_char r.0 ≡ true
unfolding value_char_at
value_char_good told [] r e = absurd cc
value_char_good told (c ∷ cs) r e =
    elim (chosen (c == ampersand) (reference_at (c ∷ cs)) (if is_char c && not (c == less) then right (c, cs) else Err told) (right r) e) [
      | inl ref ↦ reference_good (c ∷ cs) r ref.1
      | inr plain ↦ (let p = passed (is_char c && not (c == less)) (right (c, cs)) told r plain.1 in
          subst (λ n. is_char n ≡ true) (ap (λ q. q.0) (same_ok (c, cs) r p.1)) (both_of (is_char c) (not (c == less)) p.0).0)
    ]

value_good : (n : ℕ) (told : Flaw) (q : ℕ) (cs : List ℕ) (r : List ℕ × List ℕ) → value_at n told q cs ≡ right r → AreChars r.0
unfolding value_at
value_good zero told q cs r e = absurd cc
value_good (suc n) told q [] r e = absurd cc
value_good (suc n) told q (c ∷ cs) r e =
    let more = λ (x : ℕ × List ℕ). behind (x.0 ∷ []) (value_at n told q x.1) in
    elim (chosen (c == q) (right ([], cs)) (value_char_at told (c ∷ cs) >>= more) (right r) e) [
      | inl end ↦ subst AreChars (ap (λ v. v.0) (same_ok ([], cs) r end.1)) tt
      | inr goes ↦ (let b = bound (value_char_at told (c ∷ cs)) more r goes.1 in
          let d = bound (value_at n told q b.value.1) (λ v. right ((b.value.0 ∷ []) ++ v.0, v.1)) r b.behind in
          subst AreChars (ap (λ v. v.0) (same_ok ((b.value.0 ∷ []) ++ d.value.0, d.value.1) r d.behind))
          (value_char_good told (c ∷ cs) b.value b.before, value_good n told q b.value.1 d.value d.before))
    ]

quoted_good : (told : Flaw) (cs : List ℕ) (r : List ℕ × List ℕ) → quoted_at told cs ≡ right r → AreChars r.0
unfolding quoted_at
quoted_good told cs r e =
    let b = bound (quote_at told cs) (λ q. value_at (length q.1) told q.0 q.1) r e in
    value_good (length b.value.1) told b.value.0 b.value.1 r b.behind

-- an attribute that was read
record Read (names : List (List ℕ)) (pair : List ℕ × List ℕ) : Type 0 where
  name : IsName pair.0
  fresh : is_among pair.0 names ≡ false
  value : AreChars pair.1

attribute_good : (told : Flaw) (names : List (List ℕ)) (cs : List ℕ) (r : (List ℕ × List ℕ) × List ℕ)
    → attribute_at told names cs ≡ right r → Read names r.0
unfolding attribute_at valued_at
attribute_good told names cs r e =
    let after = λ (name : List ℕ × List ℕ). if is_among name.0 names then Err told else valued_at told name.0 name.1 in
    let b = bound (name_at told cs) after r e in
    let k = kept (is_among b.value.0 names) (valued_at told b.value.0 b.value.1) told r b.behind in
    let made = λ (v : List ℕ × List ℕ). right ((b.value.0, v.0), v.1) in
    let d = bound (equals_at told b.value.1) (λ rest. quoted_at told rest >>= made) r k.1 in
    let q = bound (quoted_at told d.value) made r d.behind in
    let same = same_ok ((b.value.0, q.value.0), q.value.1) r q.behind in
    subst (Read names) (ap (λ v. v.0) same)
    (record { name = name_good told cs b.value b.before; fresh = k.0; value = quoted_good told d.value q.value q.before })

are_attributes : (names : List (List ℕ)) (pair : List ℕ × List ℕ) (ps : List Pair) → Read names pair → AreAttributes (pair.0 ∷ names) ps
    → AreAttributes names (attribute_of pair ∷ ps)
are_attributes names pair ps read are =
    let n = name_scalars pair.0 read.name in
    let v = chars_scalars pair.1 read.value in
    let name_back : chars (encode_utf8_all pair.0) ≡ pair.0 = chars-encodes pair.0 n in
    let value_back : chars (encode_utf8_all pair.1) ≡ pair.1 = chars-encodes pair.1 v in
    let is : IsAttribute (attribute_of pair) = record {
      name_utf8 = utf8_of pair.0 n;
      name = subst IsName (sym name_back) read.name;
      value_utf8 = utf8_of pair.1 v;
      value = subst AreChars (sym value_back) read.value;
    } in
    (is, subst (λ x. is_among x names ≡ false) (sym name_back) read.fresh, subst (λ x. AreAttributes (x ∷ names) ps) (sym name_back) are)

-- ---- tags
module _ (n : ℕ) (start : List ℕ)
    (more_good : (names : List (List ℕ)) (cs : List ℕ) (r : Attributes × List ℕ) → attributes_at n start names cs ≡ right r → AreAttributes names r.0.0) where
  in_tag_good : (names : List (List ℕ)) (blank : Bool) (cs : List ℕ) (end : Option (Bool × List ℕ)) (r : Attributes × List ℕ)
      → in_tag (attributes_at n start) start names blank cs end ≡ right r → AreAttributes names r.0.0
  in_tag_good names blank cs (Some end) r h = subst (λ q. AreAttributes names q.0.0) (same_ok (([], end.0), end.1) r h) tt
  in_tag_good names blank cs None r h =
      let told = flaw kind.Attribute start in
      let more = λ (a : (List ℕ × List ℕ) × List ℕ). after_attributes (attribute_of a.0 ∷ []) (attributes_at n start (a.0.0 ∷ names) a.1) in
      let p = passed blank (attribute_at told names cs >>= more) (flaw kind.Tag start) r h in
      let b = bound (attribute_at told names cs) more r p.1 in
      let made = λ (m : Attributes × List ℕ). right (((attribute_of b.value.0 ∷ []) ++ m.0.0, m.0.1), m.1) in
      let d = bound (attributes_at n start (b.value.0.0 ∷ names) b.value.1) made r b.behind in
      subst (λ q. AreAttributes names q.0.0) (same_ok (((attribute_of b.value.0 ∷ []) ++ d.value.0.0, d.value.0.1), d.value.1) r d.behind)
      (are_attributes names b.value.0 d.value.0.0 (attribute_good told names cs b.value b.before)
      (more_good (b.value.0.0 ∷ names) b.value.1 d.value d.before))

attributes_good : (n : ℕ) (start : List ℕ) (names : List (List ℕ)) (cs : List ℕ) (r : Attributes × List ℕ)
    → attributes_at n start names cs ≡ right r → AreAttributes names r.0.0
unfolding attributes_at
attributes_good zero start names cs r e = absurd cc
attributes_good (suc n) start names cs r e =
    let rest = after_blanks cs in
    let b = bound (tag_end_at (flaw kind.Tag start) rest) (in_tag (attributes_at n start) start names (starts_blank cs) rest) r e in
    in_tag_good n start (λ names cs r h. attributes_good n start names cs r h) names (starts_blank cs) rest b.value r b.behind

-- a tag that was read
pub record Tagged (t : Tag) : Type 0 where
  pub name : IsName t.name
  pub attributes : AreAttributes [] t.attributes

pub opening_good : (start : List ℕ) (r : Tag × List ℕ) → opening_tag_at start ≡ right r → Tagged r.0
unfolding opening_tag_at
opening_good start r e =
    let told = flaw kind.Tag start in
    let made = λ (name : List ℕ × List ℕ) (found : Attributes × List ℕ).
    right (record { name = name.0; attributes = found.0.0; is_empty = found.0.1 }, found.1) in
    let after = λ (name : List ℕ × List ℕ). attributes_at (length name.1 + 1) start [] name.1 >>= made name in
    let b = bound (name_at told (drop 1 start)) after r e in
    let d = bound (attributes_at (length b.value.1 + 1) start [] b.value.1) (made b.value) r b.behind in
    subst (λ q. Tagged q.0) (same_ok _ r d.behind)
    (record { name = name_good told (drop 1 start) b.value b.before; attributes = attributes_good (length b.value.1 + 1) start [] b.value.1 d.value d.before })
