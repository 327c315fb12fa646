-- A text without the blanks at its ends.
use Rattle.std.proofs.Common.{◌≡◌, ℕ, List, [], ◌∷◌, ◌++◌, Bool, true, false, refl, ◌∙◌, sym, ap, subst}
use Rattle.std.specs.Prelude.{chars, encode_utf8_all, reverse}
use Rattle.std.specs.List.{AllByRecursion}
use Rattle.std.proofs.lemmas.List.{reverse-append, reverse-reverse}
use Rattle.std.proofs.lemmas.Str.{chars-encodes}
use Rattle.text_spec.specs.Character.{is_blank, starts_blank, after_blanks}
use Rattle.text_spec.specs.Element.{trimmed}
use Rattle.text_spec.specs.Writable.{AreChars, IsText}
use Rattle.text_laws.proofs.Allowed.{chars_scalars, utf8_of, both_all}

-- what comes before the first character that is no blank
record Parted (cs : List ℕ) : Type 0 where
  blanks : List ℕ
  is : cs ≡ blanks ++ after_blanks cs
  bare : starts_blank (after_blanks cs) ≡ false

parted_by : (c : ℕ) (cs : List ℕ) (b : Bool) → is_blank c ≡ b → Parted cs → Parted (c ∷ cs)
unfolding after_blanks
parted_by c cs true e p =
    let same : after_blanks (c ∷ cs) ≡ after_blanks cs = rw e in
    record {
      blanks = c ∷ p.blanks;
      is = ap (λ xs. c ∷ xs) p.is ∙ ap (λ xs. (c ∷ p.blanks) ++ xs) (sym same);
      bare = ap starts_blank same ∙ p.bare;
    }
parted_by c cs false e p =
    let same : after_blanks (c ∷ cs) ≡ c ∷ cs = rw e in
    record { blanks = []; is = sym same; bare = ap starts_blank same ∙ e }

none : Parted []
unfolding after_blanks
none = record { blanks = []; is = refl; bare = refl }

parted : (cs : List ℕ) → Parted cs
parted [] = none
parted (c ∷ cs) = parted_by c cs (is_blank c) refl (parted cs)

back_of_all : (P : ℕ → Type 0) (xs ys : List ℕ) → AllByRecursion P (xs ++ ys) → AllByRecursion P ys
back_of_all P [] ys all = all
back_of_all P (x ∷ xs) ys all = back_of_all P xs ys all.1

after_chars : (cs : List ℕ) → AreChars cs → AreChars (after_blanks cs)
after_chars cs are = let p = parted cs in back_of_all _ p.blanks (after_blanks cs) (subst AreChars p.is are)

reversed_chars : (cs : List ℕ) → AreChars cs → AreChars (reverse cs)
reversed_chars [] are = tt
reversed_chars (c ∷ cs) are =
    subst AreChars (sym (reverse-append (c ∷ []) cs)) (both_all _ (reverse cs) (c ∷ []) (reversed_chars cs are.1) (are.0, tt))

front_bare : (xs ys : List ℕ) → starts_blank (xs ++ ys) ≡ false → starts_blank xs ≡ false
front_bare [] ys e = refl
front_bare (x ∷ xs) ys e = e

-- the text that an element with these characters has
pub text_good : (cs : List ℕ) → AreChars cs → IsText (encode_utf8_all (trimmed cs))
unfolding trimmed
text_good cs are =
    let x = after_blanks cs in
    let y = after_blanks (reverse x) in
    let p = parted cs in
    let q = parted (reverse x) in
    let all : AreChars (reverse y) = reversed_chars y (after_chars (reverse x) (reversed_chars x (after_chars cs are))) in
    let back : chars (encode_utf8_all (reverse y)) ≡ reverse y = chars-encodes (reverse y) (chars_scalars (reverse y) all) in
    let whole : x ≡ reverse y ++ reverse q.blanks =
    sym (reverse-reverse x) ∙ ap reverse q.is ∙ reverse-append q.blanks y in
    record {
      utf8 = utf8_of (reverse y) (chars_scalars (reverse y) all);
      text_chars = subst AreChars (sym back) all;
      bare_front = ap starts_blank back ∙ front_bare (reverse y) (reverse q.blanks) (ap starts_blank (sym whole) ∙ p.bare);
      bare_end = ap (λ t. starts_blank (reverse t)) back ∙ ap starts_blank (reverse-reverse y) ∙ q.bare;
    }
