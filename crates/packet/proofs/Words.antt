-- Words in bytes: each four bytes spell the word that is read there.
use Rattle.std.proofs.Common.{◌≡◌, ℕ, ◌+◌, ◌-◌, ◌<◌, ◌≤◌, ◌^◌, List, ◌++◌, length, take, drop, get_or, refl, sym, arith, inl, inr}
use Rattle.std.proofs.lemmas.Bool.{cases_lt}
use Rattle.std.proofs.lemmas.List.{length-take, length-drop, get_or-drop, get_or-take, get_or_past}
use Rattle.std.proofs.lemmas.List.Folds.{drop_split}
use Rattle.std.proofs.lemmas.Nat.{be_bytes_4}
use Rattle.std.specs.Int.{w32, from_be_bytes}
use Rattle.wire_spec.specs.Packets.{word_at}
use Rattle.wire_spec.specs.Xdr.{word}

abbrev pub IsBytes : List ℕ → Type 0
IsBytes bytes = (i : ℕ) → get_or bytes i 0 < 256

pub IsBytes-drop : (n : ℕ) (bytes : List ℕ) → IsBytes bytes → IsBytes (drop n bytes)
IsBytes-drop n bytes h i = rw get_or-drop (h (n + i))

pub IsBytes-take : (n : ℕ) (bytes : List ℕ) → IsBytes bytes → IsBytes (take n bytes)
IsBytes-take n bytes h i =
    elim (cases_lt i n) [
      | inl lt ↦ rw (get_or-take n bytes i 0 lt) (h i)
      | inr le ↦ rw (get_or_past (take n bytes) i 0 (omega (arith, length-take n bytes))) (omega arith)
    ]

pub word_again : (bytes : List ℕ) → IsBytes bytes → length bytes ≡ 4 → word (from_be_bytes w32 bytes) ≡ bytes
unfolding word
word_again bytes h len = be_bytes_4 bytes _ len h refl

pub word_below : (i : ℕ) (bytes : List ℕ) → IsBytes bytes → word_at i bytes < 2 ^ 32
word_below i bytes h =
    let f = IsBytes-take 4 (drop i bytes) (IsBytes-drop i bytes h) in
    omega (arith, f 0, f 1, f 2, f 3)

pub length-word : (n : ℕ) → length (word n) ≡ 4
unfolding word
length-word n = refl

-- the word at i, and what follows it
pub piece : (bytes : List ℕ) (i j : ℕ) → j ≡ 4 + i → j ≤ length bytes → IsBytes bytes → word (word_at i bytes) ++ drop j bytes ≡ drop i bytes
piece bytes i j e le h =
    let four : length (take 4 (drop i bytes)) ≡ 4 = omega (arith, length-take 4 (drop i bytes), length-drop i bytes) in
    let w : word (word_at i bytes) ≡ take 4 (drop i bytes) = word_again (take 4 (drop i bytes)) (IsBytes-take 4 (drop i bytes) (IsBytes-drop i bytes h)) four in
    let k : j - i ≡ 4 = omega arith in
    let s : drop i bytes ≡ take (j - i) (drop i bytes) ++ drop j bytes = drop_split bytes i j (omega arith) in
    rw (w, ← k) (sym s)
