-- What is kept of bytes is a front of theirs.
use Rattle.std.proofs.Common.{◌≡◌, ℕ, ◌≤◌, List, length, take, drop, sym, ◌∙◌, ap}
use Rattle.std.proofs.lemmas.List.{take-append-drop, take-append-le, take_min, length-take}
use Rattle.std.proofs.lemmas.Str.{utf8_valid_len-IsUtf8, utf8_valid_len_le}
use Rattle.std.specs.Str.{IsUtf8}
use Rattle.std.specs.Str.Lossy.{utf8_valid_len}
use Rattle.virt_types.specs.Below.types_base.Refusal.{kept_cut}

-- where all of it is text
pub kept_all : (bs : List ℕ) → IsUtf8 (take 1024 bs) → take 1024 bs ≡ kept_cut bs
unfolding kept_cut
kept_all bs text =
    sym (ap (λ (k : ℕ). take k bs) (utf8_valid_len-IsUtf8 (take 1024 bs) text ∙ length-take 1024 bs) ∙ take_min 1024 bs)

take_take : (bs : List ℕ) (m n : ℕ) → n ≤ length (take m bs) → take n (take m bs) ≡ take n bs
take_take bs m n within = sym (take-append-le n (take m bs) (drop m bs) within) ∙ ap (take n) (take-append-drop m bs)

-- where not all of it is
pub kept_front : (bs : List ℕ) → take (utf8_valid_len (take 1024 bs)) (take 1024 bs) ≡ kept_cut bs
unfolding kept_cut
kept_front bs = take_take bs 1024 (utf8_valid_len (take 1024 bs)) (utf8_valid_len_le (take 1024 bs))
