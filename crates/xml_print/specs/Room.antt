-- How many bytes characters take, and the blanks before an element where only a limit of bytes counts.
use Rattle.std.specs.Prelude.{◌≡◌, ℕ, ◌+◌, List, length, min, encode_utf8_all}
use Rattle.text_spec.specs.Text.{most_bytes}

abbrev pub room : List ℕ → ℕ
room cs = length (encode_utf8_all cs)

-- one byte more than a text may have: a text that leaves none of these is too long
abbrev pub cap : ℕ
cap = most_bytes + 1

-- so many blanks, or as many as no text has
abbrev pub IsInset : ℕ → List ℕ → Type 0
IsInset inset blanks = inset ≡ min cap (room blanks)
