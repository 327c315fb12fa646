-- What is allowed in a text is a scalar value.
use Rattle.std.proofs.Common.{◌≡◌, ℕ, true, arith}
use Rattle.std.proofs.lemmas.Bool.Decides.{nat_tests}
use Rattle.std.specs.Char.{IsScalar}
use Rattle.text_spec.specs.Character.{is_char}

pub is_char-scalar : (n : ℕ) → is_char n ≡ true → IsScalar n
unfolding is_char
is_char-scalar n h = grind (arith, nat_tests)
