-- A bit for each of 256 slots, in four words of 64.
use Rattle.std.specs.Prelude.{◌≡◌, ◌≢◌, ℕ, ◌/◌, ◌%◌, ◌<◌, nat_lt, Bool, List, slice_index}
use Rattle.std.specs.Int.{bit_at}

-- the bit of a slot: 1 where it is free
unfoldable pub free_bit : List ℕ → ℕ → ℕ
free_bit words slot = bit_at (slice_index words (slot / 64)) (slot % 64)

-- the word has a bit set
abbrev pub is_set : ℕ → Bool
is_set word = nat_lt 0 word

-- the bit of the word is set, and none below it
pub record IsLowest (word bit : ℕ) : Type 0 where
  pub within : bit < 64
  pub set : bit_at word bit ≡ 1
  pub below : (i : ℕ) → i < bit → bit_at word i ≡ 0

-- the slot is free, and none before it is
pub record IsLeastFree (words : List ℕ) (slot : ℕ) : Type 0 where
  pub within : slot < 256
  pub free : free_bit words slot ≡ 1
  pub least : (other : ℕ) → other < slot → free_bit words other ≡ 0

abbrev pub NoneIsFree : List ℕ → Type 0
NoneIsFree words = (slot : ℕ) → slot < 256 → free_bit words slot ≡ 0

-- one slot's bit is this one now, the others are as they were
pub record ChangesBit (slot bit : ℕ) (old new : List ℕ) : Type 0 where
  pub changed : free_bit new slot ≡ bit
  pub others : (other : ℕ) → other < 256 → other ≢ slot → free_bit new other ≡ free_bit old other
