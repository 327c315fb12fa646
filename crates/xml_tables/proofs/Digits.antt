-- Bytes that are not UTF-8 are no number.
use Rattle.std.proofs.Common.{◌≡◌, ◌<◌, ℕ, zero, suc, List, [], ◌∷◌, Bool, true, false, refl, cond, arith}
use Rattle.std.specs.Prelude.{◌&&◌, None, Some, IsUtf8, nat_le, length}
use Rattle.std.specs.Char.{is_ascii_digit}
use Rattle.std.specs.Str.{all_ascii_digits, IsAscii}
use Rattle.std.specs.Str.Parse.{digits_value}
use Rattle.std.proofs.lemmas.Bool.Decides.{nat_tests}
use Rattle.std.proofs.lemmas.Str.{IsUtf8-from_ascii}
use Rattle.text_spec.specs.Units.{number_of, is_number}

left : (a b : Bool) → (a && b) ≡ true → a ≡ true
left true b h = refl
left false b h = h

right : (a b : Bool) → (a && b) ≡ true → b ≡ true
right true b h = h
right false b h = absurd (grind (arith, h))

digit_small : (c : ℕ) → is_ascii_digit c ≡ true → c < 128
digit_small c h = grind (arith, nat_tests, h)

digits_ascii : (cs : List ℕ) → all_ascii_digits cs ≡ true → IsAscii cs
digits_ascii [] h i = omega arith
digits_ascii (c ∷ cs) h zero = digit_small c (left (is_ascii_digit c) (all_ascii_digits cs) h)
digits_ascii (c ∷ cs) h (suc i) = digits_ascii cs (right (is_ascii_digit c) (all_ascii_digits cs) h) i

when_number : (word : List ℕ) → (IsUtf8 word → ⊥) → (b : Bool) → is_number word ≡ b
    → None ≡ cond b (Some (digits_value 10 word)) None
unfolding is_number
when_number word other true e =
    absurd (other (IsUtf8-from_ascii word (digits_ascii word (right (nat_le 1 (length word) && nat_le (length word) 19) (all_ascii_digits word) e))))
when_number word other false e = refl

pub no_number : (word : List ℕ) → (IsUtf8 word → ⊥) → None ≡ number_of word
unfolding number_of
no_number word other = when_number word other (is_number word) refl
