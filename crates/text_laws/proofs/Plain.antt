-- Texts of ASCII letters, digits and signs are texts and values of XML, and most are names.
use Rattle.std.proofs.Common.{◌≡◌, ℕ, zero, suc, ◌^◌, ◌<◌, ◌≤◌, List, [], ◌∷◌, Bool, true, false, refl, sym, ◌∙◌, ap, subst, arith}
use Rattle.std.specs.Prelude.{◌&&◌, nat_le, chars, reverse}
use Rattle.std.specs.Char.{digit_value}
use Rattle.std.specs.Fmt.{decimal}
use Rattle.std.specs.List.{AllByRecursion, list_all}
use Rattle.std.specs.Str.{IsAscii}
use Rattle.std.specs.Str.Parse.{AllDigits}
use Rattle.std.proofs.lemmas.Bool.Decides.{nat_tests}
use Rattle.std.proofs.lemmas.Fmt.{decimal_is_IsNumeral}
use Rattle.std.proofs.lemmas.List.{reverse-append}
use Rattle.std.proofs.lemmas.Str.{chars-IsAscii, IsUtf8-from_ascii}
use Rattle.text_spec.specs.Character.{is_char, is_blank, is_name_start, is_name_char, starts_blank}
use Rattle.text_spec.specs.Writable.{AreChars, IsName, IsNamed, IsText}
use Rattle.text_laws.specs.Given.{IsValue}
use Rattle.text_laws.proofs.Allowed.{both_all}
use Rattle.text_laws.proofs.Parts.{both_of}

-- a byte that is a letter, a digit or a sign
abbrev pub Plain : ℕ → Type 0
Plain c = (33 ≤ c) × (c < 127)

abbrev pub ArePlain : List ℕ → Type 0
ArePlain cs = AllByRecursion Plain cs

pub ascii : (cs : List ℕ) → ArePlain cs → IsAscii cs
ascii [] all i = omega arith
ascii (c ∷ cs) all zero = omega (arith, all.0.1)
ascii (c ∷ cs) all (suc i) = ascii cs all.1 i

plain_char : (c : ℕ) → Plain c → is_char c ≡ true
unfolding is_char
plain_char c is = grind (arith, nat_tests, is.0, is.1)

plain_bare : (c : ℕ) → Plain c → is_blank c ≡ false
plain_bare c is = grind (arith, nat_tests, is.0, is.1)

plain_chars : (cs : List ℕ) → ArePlain cs → AreChars cs
plain_chars [] all = tt
plain_chars (c ∷ cs) all = (plain_char c all.0, plain_chars cs all.1)

bare : (cs : List ℕ) → ArePlain cs → starts_blank cs ≡ false
bare [] all = refl
bare (c ∷ cs) all = plain_bare c all.0

reversed : (cs : List ℕ) → ArePlain cs → ArePlain (reverse cs)
reversed [] all = tt
reversed (c ∷ cs) all = subst ArePlain (sym (reverse-append (c ∷ []) cs)) (both_all Plain (reverse cs) (c ∷ []) (reversed cs all.1) (all.0, tt))

pub plain_value : (cs : List ℕ) → ArePlain cs → IsValue cs
plain_value cs all =
    let same : chars cs ≡ cs = chars-IsAscii cs (ascii cs all) in
    record { utf8 = IsUtf8-from_ascii cs (ascii cs all); value_chars = subst AreChars (sym same) (plain_chars cs all) }

pub plain_text : (cs : List ℕ) → ArePlain cs → IsText cs
plain_text cs all =
    let same : chars cs ≡ cs = chars-IsAscii cs (ascii cs all) in
    record {
      utf8 = IsUtf8-from_ascii cs (ascii cs all);
      text_chars = subst AreChars (sym same) (plain_chars cs all);
      bare_front = ap starts_blank same ∙ bare cs all;
      bare_end = ap (λ xs. starts_blank (reverse xs)) same ∙ bare (reverse cs) (reversed cs all);
    }

pub no_text : IsText []
no_text = plain_text [] tt

pub no_value : IsValue []
no_value = plain_value [] tt

-- ---- a test that computes
abbrev is_plain : ℕ → Bool
is_plain c = nat_le 33 c && nat_le c 126

plain_by : (cs : List ℕ) → list_all is_plain cs ≡ true → ArePlain cs
plain_by [] e = tt
plain_by (c ∷ cs) e =
    let parts = both_of (is_plain c) (list_all is_plain cs) e in
    let is : Plain c = (grind (arith, nat_tests, parts.0), grind (arith, nat_tests, parts.0)) in
    (is, plain_by cs parts.1)

pub word_text : (cs : List ℕ) → list_all is_plain cs ≡ true → IsText cs
word_text cs e = plain_text cs (plain_by cs e)

pub word_value : (cs : List ℕ) → list_all is_plain cs ≡ true → IsValue cs
word_value cs e = plain_value cs (plain_by cs e)

-- ---- names
all_name : (cs : List ℕ) → list_all is_name_char cs ≡ true → AllByRecursion (λ c. is_name_char c ≡ true) cs
all_name [] e = tt
all_name (c ∷ cs) e = let parts = both_of (is_name_char c) (list_all is_name_char cs) e in (parts.0, all_name cs parts.1)

pub named_by : (c : ℕ) (cs : List ℕ) → list_all is_plain (c ∷ cs) ≡ true → is_name_start c ≡ true → list_all is_name_char (c ∷ cs) ≡ true → IsNamed (c ∷ cs)
named_by c cs e start all =
    let plain = plain_by (c ∷ cs) e in
    let same : chars (c ∷ cs) ≡ c ∷ cs = chars-IsAscii (c ∷ cs) (ascii (c ∷ cs) plain) in
    record { utf8 = IsUtf8-from_ascii (c ∷ cs) (ascii (c ∷ cs) plain); name_chars = subst IsName (sym same) (start, all_name (c ∷ cs) all) }

-- ---- numbers
digit_plain : (c : ℕ) → digit_value c < 10 → Plain c
digit_plain c h = (grind (arith, nat_tests), grind (arith, nat_tests))

digits_plain : (cs : List ℕ) → AllDigits 10 cs → ArePlain cs
digits_plain [] h = tt
digits_plain (c ∷ cs) h = (digit_plain c h.0, digits_plain cs h.1)

pub decimal_plain : (n : ℕ) → n < 2 ^ 64 → ArePlain (decimal n)
decimal_plain n fits = digits_plain (decimal n) (decimal_is_IsNumeral n fits).0.1
