-- The first wrong byte of a name, and what holds where there is none.
use Rattle.std.proofs.Common.{◌≡◌, ℕ, ◌<◌, ◌≤◌, Bool, true, false, not, cond, ◌||◌, List, length, get_or, nat_lt, ◌==◌, Some, None, refl, sym, arith}
use Rattle.std.specs.List.{All, position, position_or_len}
use Rattle.std.specs.Option.{unwrap_or}
use Rattle.std.specs.Str.{IsUtf8}
use Rattle.std.proofs.lemmas.Str.{utf8_valid_len-IsUtf8}
use Rattle.std.proofs.lemmas.List.Sums.{prefix_len-le-length, prefix_len_passes}
use Rattle.types_base.specs.Name.{IsName, bad_place, first_forbidden, first_wrong, is_bad_whole, is_dots, is_forbidden}

not_true : (v : Bool) → not v ≡ true → v ≡ false
not_true true e = sym e
not_true false e = refl

-- where the first byte that passes is past the end, all fail
pub all_fail : (p : ℕ → Bool) (bs : List ℕ) → position_or_len p bs ≡ length bs → All (λ x. p x ≡ false) bs
all_fail p bs is = λ k d lt. not_true (p (get_or bs k d)) (prefix_len_passes (λ x. not (p x)) bs k d (omega (arith, is, lt)))

place_of : (n l : ℕ) (v : Bool) → nat_lt n l ≡ v → n ≤ l → unwrap_or (cond v (Some n) None) l ≡ n
place_of n l true is le = refl
place_of n l false is le = grind (arith, is, le)

-- the place of the first byte that passes, or the length
pub place_or_len : (p : ℕ → Bool) (bs : List ℕ) → unwrap_or (position p bs) (length bs) ≡ position_or_len p bs
place_or_len p bs = place_of (position_or_len p bs) (length bs) (nat_lt (position_or_len p bs) (length bs)) refl (prefix_len-le-length (λ x. not (p x)) bs)

-- a byte is wrong
pub place_wrong : (bs : List ℕ) (n : ℕ) → first_wrong bs ≡ n → n < length bs → bad_place bs ≡ Some n
unfolding bad_place
place_wrong bs n is lt = grind (arith, is, lt)

-- of UTF-8 the first wrong byte is the first forbidden one
pub first_of_text : (bs : List ℕ) → IsUtf8 bs → first_wrong bs ≡ first_forbidden bs
first_of_text bs utf8 = omega (arith, utf8_valid_len-IsUtf8 bs utf8, prefix_len-le-length (λ x. not (is_forbidden x)) bs)

-- no byte is wrong, but the whole
pub place_whole : (bs : List ℕ) (n : ℕ) → IsUtf8 bs → first_forbidden bs ≡ length bs → is_bad_whole bs ≡ true → n ≡ length bs → bad_place bs ≡ Some n
unfolding bad_place
place_whole bs n utf8 is whole all = grind (arith, first_of_text bs utf8, is, whole, all)

pub place_none : (bs : List ℕ) → IsUtf8 bs → first_forbidden bs ≡ length bs → is_bad_whole bs ≡ false → bad_place bs ≡ None
unfolding bad_place
place_none bs utf8 is whole = grind (arith, first_of_text bs utf8, is, whole)

whole_parts : (n : ℕ) (d : Bool) → (n == 0 || nat_lt 128 n || d) ≡ false → (1 ≤ n) × (n ≤ 128) × (d ≡ false)
whole_parts n d e = grind (arith, e)

-- what is no name in no way is one
pub name_of : (bs : List ℕ) → IsUtf8 bs → first_forbidden bs ≡ length bs → is_bad_whole bs ≡ false → IsName bs
name_of bs utf8 is whole =
    let parts = whole_parts (length bs) (is_dots bs) whole in
    record { least = parts.0; most = parts.1; utf8 = utf8; allowed = all_fail is_forbidden bs is; no_dots = parts.2 }
