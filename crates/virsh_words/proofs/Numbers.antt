-- Words of digits are parsed as the numbers that they are.
use Rattle.std.proofs.Common.{◌≡◌, ℕ, ◌+◌, ◌*◌, ◌^◌, ◌<◌, ◌≤◌, List, [], ◌∷◌, length, Bool, true, false, Ok, rules, refl, ap, sym, ◌∙◌, arith}
use Rattle.std.specs.Prelude.{◌&&◌, nat_le, not, Result, Some, None, IfSome, if◌then◌else◌}
use Rattle.std.specs.List.{list_all}
use Rattle.std.specs.Char.{is_ascii_digit}
use Rattle.std.specs.Result.{result_ok}
use Rattle.std.specs.Str.Parse.{digits_value, ParsesUnsigned}
use Rattle.std.proofs.Math.Nat.{pow-le-pow_right}
use Rattle.std.proofs.lemmas.Bool.Decides.{nat_tests}
use Rattle.std.proofs.lemmas.Str.Parse.{IsDigitsTest, IsNumeralModel, numerals_by_value, digits_value_short, parse_gives}
use Rattle.command_spec.specs.Reading.{is_number, leads_with_zero, number_of}

tells : IsDigitsTest (λ ds. list_all is_ascii_digit ds ≡ true)
tells = search rules

own : IsNumeralModel (λ ds. list_all is_ascii_digit ds ≡ true) (digits_value 10)
own = numerals_by_value (λ ds. list_all is_ascii_digit ds ≡ true) tells

-- what a number is
pub record Numeral (most : ℕ) (word : List ℕ) : Type 0 where
  pub some : 1 ≤ length word
  pub short : length word ≤ most
  pub digits : list_all is_ascii_digit word ≡ true

parts : (a b d e : Bool) → ((a && b) && (d && e)) ≡ true → (a ≡ true) × (b ≡ true) × (d ≡ true)
parts true true true e h = (refl, refl, refl)
parts true true false e h = absurd cc
parts true false d e h = absurd cc
parts false b d e h = absurd cc

pub numeral : (most : ℕ) (word : List ℕ) → is_number most word ≡ true → Numeral most word
numeral most word is =
    let p = parts (nat_le 1 (length word)) (nat_le (length word) most) (list_all is_ascii_digit word) (not (leads_with_zero word)) is in
    record { some = grind (arith, nat_tests, p.0); short = grind (arith, nat_tests, p.1); digits = p.2 }

pub value_short : (most : ℕ) (word : List ℕ) → is_number most word ≡ true → digits_value 10 word < 10 ^ most
value_short most word is = let n = numeral most word is in digits_value_short own word most n.digits n.short

most_fits : (most : ℕ) → most ≤ 19 → 10 ^ most < 2 ^ 64
most_fits most small =
    let below = pow-le-pow_right {n = 10} (omega arith) small in
    omega (arith, below)

pub parsed : {E : Type 0} (most : ℕ) (word : List ℕ) (r : Result ℕ E) → most ≤ 19 → is_number most word ≡ true → ParsesUnsigned 64 10 word r → r ≡ Ok (digits_value 10 word)
parsed most word r small is h =
    let n = numeral most word is in
    let short = value_short most word is in
    let fits = most_fits most small in
    parse_gives own 64 word r h n.digits n.some (omega (arith, short, fits))

pub number_is : (most : ℕ) (word : List ℕ) → is_number most word ≡ true → number_of most word ≡ Some (digits_value 10 word)
unfolding number_of
number_is most word is = rw is
