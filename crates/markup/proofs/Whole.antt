-- A text that is UTF-8 as a whole.
use Rattle.std.proofs.Common.{◌≡◌, ℕ, ◌≤◌, List, length, false, arith}
use Rattle.std.specs.Prelude.{IsUtf8, chars, nat_lt}
use Rattle.std.specs.Str.Lossy.{utf8_valid_len}
use Rattle.std.proofs.lemmas.Bool.Decides.{nat_tests}
use Rattle.std.proofs.lemmas.Str.{utf8_valid_len-IsUtf8}
use Rattle.text_spec.specs.Text.{most_bytes, read_of, tree_of_characters}

not_less : (a b : ℕ) → b ≤ a → nat_lt a b ≡ false
not_less a b h = grind (arith, nat_tests)

pub read_whole : (bytes : List ℕ) → length bytes ≤ most_bytes → IsUtf8 bytes → read_of bytes ≡ tree_of_characters (chars bytes)
unfolding read_of
read_whole bytes short utf8 =
    let whole = utf8_valid_len-IsUtf8 bytes utf8 in
    let within = not_less most_bytes (length bytes) short in
    let reached = not_less (utf8_valid_len bytes) (length bytes) (omega (arith, whole)) in
    rw (within, reached)
