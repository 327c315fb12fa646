-- The bits of free slots, after one was written, and the least one.
use Rattle.std.proofs.Common.{◌≡◌, ◌≢◌, ℕ, ◌+◌, ◌*◌, ◌/◌, ◌%◌, ◌^◌, ◌<◌, ◌≤◌, zero, suc, List, [], ◌∷◌, length, set, bit_and, bit_or, slice_index, position, None, Some, true, false, ltb-true, ltb-false, refl, sym, ap, ◌∙◌, subst, ⊎_elim, w64, arith}
use Rattle.std.specs.Int.{bit_at, bit_not, trailing_zeros}
use Rattle.std.proofs.lemmas.Bool.{cases_eq, cases_lt}
use Rattle.std.proofs.lemmas.List.{get_or-set_same, get_or-set_other}
use Rattle.std.proofs.lemmas.Nat.Bits.{bit_at-trailing_zeros, bit_at_set_same, bit_at_set_other, bit_at_clear_same, bit_at_clear_other, bit_at-zero, bit_at_ones}
use Rattle.std.proofs.lemmas.List.Quantifiers.{position-Some}
use Rattle.book_spec.proofs.Positions.{none_passes}
use Rattle.object_list.specs.FreeSlots.{free_bit, is_set, IsLeastFree, IsLowest, NoneIsFree, ChangesBit}

place_within : (slot : ℕ) → slot < 256 → slot / 64 < 4
place_within slot within = omega (arith, within)

bit_within : (slot : ℕ) → slot % 64 < 64
bit_within slot = omega arith

same_slot : (slot other : ℕ) → other / 64 ≡ slot / 64 → other % 64 ≡ slot % 64 → other ≡ slot
same_slot slot other place bit = omega (arith, place, bit)

-- one word was written, so that its bit of the slot is this one, and its others are as they were
pub word_written : (words : List ℕ) (slot bit word : ℕ) → length words ≡ 4 → slot < 256 → bit_at word (slot % 64) ≡ bit → ((i : ℕ) → i < 64 → i ≢ slot % 64 → bit_at word i ≡ bit_at (slice_index words (slot / 64)) i) → ChangesBit slot bit words (set words (slot / 64) word)
unfolding free_bit
word_written words slot bit word four within here others = record {
  changed = ap (λ (w : ℕ). bit_at w (slot % 64)) (get_or-set_same words (slot / 64) word 0 (subst (λ (n : ℕ). slot / 64 < n) (sym four) (place_within slot within))) ∙ here;
  others = λ other other_within ne. ⊎_elim
      (λ (place : other / 64 ≡ slot / 64).
      ap (λ (w : ℕ). bit_at w (other % 64)) (ap (slice_index (set words (slot / 64) word)) place ∙ get_or-set_same words (slot / 64) word 0 (subst (λ (n : ℕ). slot / 64 < n) (sym four) (place_within slot within)))
      ∙ (others (other % 64) (bit_within other) (λ bit_same. ne (same_slot slot other place bit_same)) ∙ ap (λ (p : ℕ). bit_at (slice_index words p) (other % 64)) (sym place)))
      (λ (apart : other / 64 ≢ slot / 64). ap (λ (w : ℕ). bit_at w (other % 64)) (get_or-set_other words (slot / 64) (other / 64) word 0 apart))
      (cases_eq (other / 64) (slot / 64));
}

pub taken : (words : List ℕ) (slot : ℕ) → length words ≡ 4 → slot < 256 → ChangesBit slot 0 words (set words (slot / 64) (bit_and (slice_index words (slot / 64)) (bit_not w64 (1 * 2 ^ (slot % 64) % 2 ^ 64))))
taken words slot four within =
    let word : ℕ = slice_index words (slot / 64) in
    word_written words slot 0 (bit_and word (bit_not w64 (1 * 2 ^ (slot % 64) % 2 ^ 64))) four within (bit_at_clear_same w64 word (slot % 64) (bit_within slot)) (λ i lt ne. bit_at_clear_other w64 word (slot % 64) (bit_within slot) i lt ne)

pub given : (words : List ℕ) (slot : ℕ) → length words ≡ 4 → slot < 256 → ChangesBit slot 1 words (set words (slot / 64) (bit_or (slice_index words (slot / 64)) (1 * 2 ^ (slot % 64) % 2 ^ 64)))
given words slot four within =
    let word : ℕ = slice_index words (slot / 64) in
    word_written words slot 1 (bit_or word (1 * 2 ^ (slot % 64) % 2 ^ 64)) four within (bit_at_set_same w64 word (slot % 64) (bit_within slot)) (λ i lt ne. bit_at_set_other w64 word (slot % 64) (bit_within slot) i ne)

-- the lowest bit of a word that is not 0
pub lowest_bit : (word : ℕ) → is_set word ≡ true → word < 2 ^ 64 → IsLowest word (trailing_zeros w64 word)
lowest_bit word some fits = let found = bit_at-trailing_zeros w64 word (ltb-true 0 word some) fits in record { within = found.0; set = found.1; below = found.2 }

zero_word : (w : ℕ) → is_set w ≡ false → w ≡ 0
zero_word w is_not = omega (arith, ltb-false 0 w is_not)

-- the lowest bit of the first word that is not 0 is that of the least free slot
pub least-first : (words : List ℕ) (place bit : ℕ) → length words ≡ 4 → position is_set words ≡ Some place → IsLowest (slice_index words place) bit → IsLeastFree words (place * 64 + bit)
unfolding free_bit
least-first words place bit four is lowest =
    let first = position-Some is_set words place 0 is in
    let at_place : (place * 64 + bit) / 64 ≡ place = omega (arith, lowest.within) in
    let at_bit : (place * 64 + bit) % 64 ≡ bit = omega (arith, lowest.within) in
    record {
      within = omega (arith, first.0, four, lowest.within);
      free = ap (λ (x : ℕ × ℕ). bit_at (slice_index words x.0) x.1) (λ i. (at_place i, at_bit i)) ∙ lowest.set;
      least = λ other lt. ⊎_elim
          (λ (earlier : other / 64 < place). ap (λ (w : ℕ). bit_at w (other % 64)) (zero_word (slice_index words (other / 64)) (first.2 (other / 64) earlier)) ∙ bit_at-zero (other % 64))
          (λ (later : place ≤ other / 64).
          let same : other / 64 ≡ place = omega (arith, lt, later, lowest.within) in
          ap (λ (p : ℕ). bit_at (slice_index words p) (other % 64)) same ∙ lowest.below (other % 64) (omega (arith, lt, later, lowest.within)))
          (cases_lt (other / 64) place);
    }

pub none : (words : List ℕ) → ((k : ℕ) → k < 4 → slice_index words k ≡ 0) → NoneIsFree words
unfolding free_bit
none words empty slot within = ap (λ (w : ℕ). bit_at w (slot % 64)) (empty (slot / 64) (place_within slot within)) ∙ bit_at-zero (slot % 64)

-- each of the four words is all ones
pub all_free : (slot : ℕ) → slot < 256 → free_bit (18446744073709551615 ∷ 18446744073709551615 ∷ 18446744073709551615 ∷ 18446744073709551615 ∷ []) slot ≡ 1
unfolding free_bit
all_free slot within = ap (λ (w : ℕ). bit_at w (slot % 64)) (same_word (slot / 64) (place_within slot within)) ∙ bit_at_ones 64 (slot % 64) (bit_within slot)
  where
    same_word : (p : ℕ) → p < 4 → slice_index (18446744073709551615 ∷ 18446744073709551615 ∷ 18446744073709551615 ∷ 18446744073709551615 ∷ []) p ≡ 18446744073709551615
    same_word zero lt = refl
    same_word (suc zero) lt = refl
    same_word (suc (suc zero)) lt = refl
    same_word (suc (suc (suc zero))) lt = refl
    same_word (suc (suc (suc (suc p)))) lt = absurd (omega (arith, lt))

pub none-first : (words : List ℕ) → length words ≡ 4 → position is_set words ≡ None → NoneIsFree words
none-first words four is = none words (λ k lt. omega (arith, ltb-false 0 (slice_index words k) (none_passes is_set 0 words is k (omega (arith, four, lt)))))
