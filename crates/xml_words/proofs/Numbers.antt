-- Texts of digits are parsed as the numbers that they are.
use Rattle.std.proofs.Common.{◌≡◌, ℕ, ◌+◌, ◌*◌, ◌^◌, ◌<◌, ◌≤◌, List, [], ◌∷◌, length, Bool, true, false, Ok, rules, refl, ap, sym, ◌∙◌, arith}
use Rattle.std.specs.Prelude.{◌&&◌, nat_le, Result, Some, None, IfSome, if◌then◌else◌}
use Rattle.std.specs.List.{list_all}
use Rattle.std.specs.Char.{is_ascii_digit}
use Rattle.std.specs.Result.{result_ok}
use Rattle.std.specs.Str.Parse.{digits_value, ParsesUnsigned}
use Rattle.std.proofs.lemmas.Bool.Decides.{nat_tests}
use Rattle.std.proofs.lemmas.Str.Parse.{IsDigitsTest, IsNumeralModel, numerals_by_value, digits_value_short, parse_gives}
use Rattle.text_spec.specs.Units.{is_number, number_of}

tells : IsDigitsTest (λ ds. list_all is_ascii_digit ds ≡ true)
tells = search rules

own : IsNumeralModel (λ ds. list_all is_ascii_digit ds ≡ true) (digits_value 10)
own = numerals_by_value (λ ds. list_all is_ascii_digit ds ≡ true) tells

-- what a number is
pub record Numeral (text : List ℕ) : Type 0 where
  pub some : 1 ≤ length text
  pub short : length text ≤ 19
  pub digits : list_all is_ascii_digit text ≡ true

parts : (a b d : Bool) → ((a && b) && d) ≡ true → (a ≡ true) × (b ≡ true) × (d ≡ true)
parts true true true h = (refl, refl, refl)
parts true true false h = absurd cc
parts true false d h = absurd cc
parts false b d h = absurd cc

pub numeral : (text : List ℕ) → is_number text ≡ true → Numeral text
unfolding is_number
numeral text is =
    let p = parts (nat_le 1 (length text)) (nat_le (length text) 19) (list_all is_ascii_digit text) is in
    record { some = grind (arith, nat_tests, p.0); short = grind (arith, nat_tests, p.1); digits = p.2 }

pub value_short : (text : List ℕ) → is_number text ≡ true → digits_value 10 text < 10 ^ 19
value_short text is = let n = numeral text is in digits_value_short own text 19 n.digits n.short

pub parsed : {E : Type 0} (text : List ℕ) (r : Result ℕ E) → is_number text ≡ true → ParsesUnsigned 64 10 text r → r ≡ Ok (digits_value 10 text)
parsed text r is h =
    let n = numeral text is in
    let short = value_short text is in
    parse_gives own 64 text r h n.digits n.some (omega (arith, short))

pub number_is : (text : List ℕ) → is_number text ≡ true → number_of text ≡ Some (digits_value 10 text)
unfolding number_of
number_is text is = rw is
