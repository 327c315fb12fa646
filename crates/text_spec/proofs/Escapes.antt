-- Characters that were written, by a reference or as themselves, are read.
use Rattle.std.proofs.Common.{◌≡◌, ℕ, zero, suc, ◌≤◌, List, [], ◌∷◌, ◌++◌, length, Bool, true, false, true≢false, eq-eqb, Ok, refl, sym, ◌∙◌, ap, arith, length-append, ne_eqb, append_assoc, inl, inr}
use Rattle.std.specs.Prelude.{◌⊎◌, codes, nat_eq}
use Rattle.std.specs.List.{flat_map}
use Rattle.std.proofs.lemmas.Bool.Decides.{nat_tests}
use Rattle.text_spec.specs.declared.fault.Flaw.{Flaw}
use Rattle.text_spec.specs.Character.{is_char, is_run_char}
use Rattle.text_spec.specs.Reading.{expect, ◌>>=◌}
use Rattle.text_spec.specs.Reference.{after_ampersand, reference_at}
use Rattle.text_spec.specs.Tag.{behind, value_char_at, value_at}
use Rattle.text_spec.specs.Written.{in_text, in_value}
use Rattle.text_spec.specs.Writable.{AreChars}

eqb-eq : (a b : ℕ) → nat_eq a b ≡ true → a ≡ b
eqb-eq a b h = grind (arith, nat_tests)

-- a character that has a reference, or another
pub data Kind (c : ℕ) : Type 0 where
  quote : c ≡ 34 → Kind c
  apostrophe : c ≡ 39 → Kind c
  ampersand : c ≡ 38 → Kind c
  less : c ≡ 60 → Kind c
  greater : c ≡ 62 → Kind c
  plain : nat_eq c 34 ≡ false → nat_eq c 39 ≡ false → nat_eq c 38 ≡ false → nat_eq c 60 ≡ false → nat_eq c 62 ≡ false → Kind c

kind_by : (c : ℕ) (a b d e f : Bool) → nat_eq c 34 ≡ a → nat_eq c 39 ≡ b → nat_eq c 38 ≡ d → nat_eq c 60 ≡ e → nat_eq c 62 ≡ f → Kind c
kind_by c true b d e f p q r s t = quote (eqb-eq c 34 p)
kind_by c false true d e f p q r s t = apostrophe (eqb-eq c 39 q)
kind_by c false false true e f p q r s t = ampersand (eqb-eq c 38 r)
kind_by c false false false true f p q r s t = less (eqb-eq c 60 s)
kind_by c false false false false true p q r s t = greater (eqb-eq c 62 t)
kind_by c false false false false false p q r s t = plain p q r s t

pub kind_of : (c : ℕ) → Kind c
kind_of c = kind_by c _ _ _ _ _ refl refl refl refl refl

-- what reading needs of a written character of a value
pub record Value (c : ℕ) : Type 0 where
  pub first : ℕ
  pub others : List ℕ
  pub begins : in_value c ≡ first ∷ others
  pub other : first ≡ 39 → ⊥
  pub reads : (told : Flaw) (more : List ℕ) → value_char_at told (in_value c ++ more) ≡ Ok (c, more)

in_value_by : (c : ℕ) → is_char c ≡ true → Kind c → Value c
unfolding in_value in_text value_char_at reference_at after_ampersand expect
in_value_by c is (quote e) = rw e (record { first = 38; others = codes "quot;"; begins = refl; other = λ h. omega (arith, h); reads = λ told more. refl })
in_value_by c is (apostrophe e) = rw e (record { first = 38; others = codes "apos;"; begins = refl; other = λ h. omega (arith, h); reads = λ told more. refl })
in_value_by c is (ampersand e) = rw e (record { first = 38; others = codes "amp;"; begins = refl; other = λ h. omega (arith, h); reads = λ told more. refl })
in_value_by c is (less e) = rw e (record { first = 38; others = codes "lt;"; begins = refl; other = λ h. omega (arith, h); reads = λ told more. refl })
in_value_by c is (greater e) = rw e (record { first = 38; others = codes "gt;"; begins = refl; other = λ h. omega (arith, h); reads = λ told more. refl })
in_value_by c is (plain p q r s t) = record {
  first = c;
  others = [];
  begins = rw (p, q, r, s, t);
  other = λ h. true≢false (sym (eq-eqb c 39 h) ∙ q);
  reads = λ told more. rw (p, q, r, s, t, r, is, s);
}

pub value_char : (c : ℕ) → is_char c ≡ true → Value c
value_char c is = in_value_by c is (kind_of c)

-- ---- a value up to its quote
value_step : (n : ℕ) (told : Flaw) (q x : ℕ) (cs xs : List ℕ) → cs ≡ x ∷ xs → (x ≡ q → ⊥)
    → value_at (suc n) told q cs ≡ (value_char_at told cs >>= λ r. behind (r.0 ∷ []) (value_at n told q r.1))
unfolding value_at
value_step n told q x cs xs e other = rw (e, ne_eqb x q other)

pub value_back : (k : ℕ) (told : Flaw) (v rest : List ℕ) → AreChars v → length (flat_map in_value v ++ 39 ∷ rest) ≤ k
    → value_at k told 39 (flat_map in_value v ++ 39 ∷ rest) ≡ Ok (v, rest)
unfolding value_at
value_back zero told [] rest are enough = absurd (omega (arith, enough))
value_back zero told (c ∷ v) rest are enough =
    let w = value_char c are.0 in
    absurd (omega (arith, enough, ap length w.begins, length-append (in_value c ++ flat_map in_value v) (39 ∷ rest), length-append (in_value c) (flat_map in_value v)))
value_back (suc k) told [] rest are enough = refl
value_back (suc k) told (c ∷ v) rest are enough =
    let w = value_char c are.0 in
    let more = flat_map in_value v ++ 39 ∷ rest in
    let whole : flat_map in_value (c ∷ v) ++ 39 ∷ rest ≡ in_value c ++ more = append_assoc (in_value c) (flat_map in_value v) (39 ∷ rest) in
    let begins : in_value c ++ more ≡ w.first ∷ w.others ++ more = ap (λ xs. xs ++ more) w.begins in
    let shorter : length more ≤ k = omega (arith, enough, ap length whole, ap length begins, length-append w.others more) in
    ap (value_at (suc k) told 39) whole
    ∙ value_step k told 39 w.first (in_value c ++ more) (w.others ++ more) begins w.other
    ∙ rw (w.reads told more, value_back k told v rest are.1 shorter)

-- ---- an element's text
-- a character of a run of text as it is written
pub record Plain (c : ℕ) : Type 0 where
  pub run : is_run_char c ≡ true
  pub less : nat_eq c 60 ≡ false
  pub ampersand : nat_eq c 38 ≡ false
  pub greater : nat_eq c 62 ≡ false

-- a character that is written by a reference
pub record Referred (c : ℕ) : Type 0 where
  pub others : List ℕ
  pub is : in_text c ≡ 38 ∷ others
  pub reads : (more : List ℕ) → reference_at (in_text c ++ more) ≡ Ok (c, more)

plain_of : (c : ℕ) → is_char c ≡ true → nat_eq c 38 ≡ false → nat_eq c 60 ≡ false → nat_eq c 62 ≡ false → Plain c × (in_text c ≡ c ∷ [])
unfolding in_text
plain_of c is a l g = (record { run = rw (is, l, a); less = l; ampersand = a; greater = g }, rw (a, l, g))

in_text_by : (c : ℕ) → is_char c ≡ true → Kind c → (Plain c × (in_text c ≡ c ∷ [])) ⊎ Referred c
unfolding in_text reference_at after_ampersand expect
in_text_by c is (quote e) = inl (plain_of c is (rw e) (rw e) (rw e))
in_text_by c is (apostrophe e) = inl (plain_of c is (rw e) (rw e) (rw e))
in_text_by c is (ampersand e) = inr (rw e (record { others = codes "amp;"; is = refl; reads = λ more. refl }))
in_text_by c is (less e) = inr (rw e (record { others = codes "lt;"; is = refl; reads = λ more. refl }))
in_text_by c is (greater e) = inr (rw e (record { others = codes "gt;"; is = refl; reads = λ more. refl }))
in_text_by c is (plain p q r s t) = inl (plain_of c is r s t)

pub text_char : (c : ℕ) → is_char c ≡ true → (Plain c × (in_text c ≡ c ∷ [])) ⊎ Referred c
text_char c is = in_text_by c is (kind_of c)
