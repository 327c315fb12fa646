-- The blanks that writing adds.
use Rattle.std.proofs.Common.{◌≡◌, ℕ, List, [], ◌∷◌, ◌++◌, true, false, refl, sym, ◌∙◌, ap, append_assoc, append-nil, inl, inr}
use Rattle.std.specs.Prelude.{◌⊎◌, reverse}
use Rattle.std.specs.List.{flat_map, AllByRecursion}
use Rattle.std.proofs.lemmas.List.{reverse-append, reverse-reverse}
use Rattle.text_spec.specs.Character.{is_char, is_blank, starts_blank, after_blanks}
use Rattle.text_spec.specs.Element.{trimmed}
use Rattle.text_spec.specs.Written.{in_text}
use Rattle.text_spec.specs.Writable.{AreChars}

-- a space or a line feed
abbrev pub Blank : ℕ → Type 0
Blank c = (c ≡ 32) ⊎ (c ≡ 10)

abbrev pub Blanks : List ℕ → Type 0
Blanks w = AllByRecursion Blank w

blank_char : (c : ℕ) → Blank c → is_char c ≡ true
unfolding is_char
blank_char c (inl e) = rw e
blank_char c (inr e) = rw e

blank_is : (c : ℕ) → Blank c → is_blank c ≡ true
blank_is c (inl e) = rw e
blank_is c (inr e) = rw e

blank_text : (c : ℕ) → Blank c → in_text c ≡ c ∷ []
unfolding in_text
blank_text c (inl e) = rw e
blank_text c (inr e) = rw e

pub blanks_chars : (w : List ℕ) → Blanks w → AreChars w
blanks_chars [] b = tt
blanks_chars (c ∷ w) b = (blank_char c b.0, blanks_chars w b.1)

pub blanks_text : (w : List ℕ) → Blanks w → flat_map in_text w ≡ w
blanks_text [] b = refl
blanks_text (c ∷ w) b = rw (blank_text c b.0, blanks_text w b.1)

pub both_blanks : (v w : List ℕ) → Blanks v → Blanks w → Blanks (v ++ w)
both_blanks [] w b d = d
both_blanks (c ∷ v) w b d = (b.0, both_blanks v w b.1 d)

pub both_chars : (v w : List ℕ) → AreChars v → AreChars w → AreChars (v ++ w)
both_chars [] w b d = d
both_chars (c ∷ v) w b d = (b.0, both_chars v w b.1 d)

blanks_skip : (w xs : List ℕ) → Blanks w → after_blanks (w ++ xs) ≡ after_blanks xs
unfolding after_blanks
blanks_skip [] xs b = refl
blanks_skip (c ∷ w) xs b = rw (blank_is c b.0) (blanks_skip w xs b.1)

blank_skip : (c : ℕ) (xs : List ℕ) → Blank c → after_blanks (c ∷ xs) ≡ after_blanks xs
unfolding after_blanks
blank_skip c xs b = rw (blank_is c b)

blanks_back : (w xs : List ℕ) → Blanks w → after_blanks (reverse w ++ xs) ≡ after_blanks xs
blanks_back [] xs b = refl
blanks_back (c ∷ w) xs b =
    ap after_blanks (ap (λ cs. cs ++ xs) (reverse-append (c ∷ []) w) ∙ append_assoc (reverse w) (c ∷ []) xs)
    ∙ blanks_back w (c ∷ xs) b.1 ∙ blank_skip c xs b.0

no_skip : (t : List ℕ) → starts_blank t ≡ false → after_blanks t ≡ t
unfolding after_blanks
no_skip [] e = refl
no_skip (c ∷ t) e = rw e

end_trimmed : (t w : List ℕ) → starts_blank (reverse t) ≡ false → Blanks w → reverse (after_blanks (reverse (t ++ w))) ≡ t
end_trimmed t w e b =
    ap (λ cs. reverse (after_blanks cs)) (reverse-append t w)
    ∙ ap reverse (blanks_back w (reverse t) b ∙ no_skip (reverse t) e)
    ∙ reverse-reverse t

pub trimmed_back : (t w : List ℕ) → starts_blank t ≡ false → starts_blank (reverse t) ≡ false → Blanks w → trimmed (t ++ w) ≡ t
unfolding trimmed after_blanks
trimmed_back [] w e f b = ap (λ cs. reverse (after_blanks (reverse cs))) (ap after_blanks (sym (append-nil w)) ∙ blanks_skip w [] b)
trimmed_back (c ∷ t) w e f b = ap (λ cs. reverse (after_blanks (reverse cs))) (no_skip ((c ∷ t) ++ w) e) ∙ end_trimmed (c ∷ t) w f b

pub line_chars : (s : List ℕ) → AreChars s → AreChars (s ++ 10 ∷ [])
line_chars s are = both_chars s (10 ∷ []) are (blanks_chars (10 ∷ []) (inr refl, tt))
