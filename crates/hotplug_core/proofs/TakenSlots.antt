-- The word of taken slots, and the least slot that is free in it.
use Rattle.std.proofs.Common.{◌≡◌, ◌≢◌, ℕ, ◌+◌, ◌*◌, ◌-◌, ◌%◌, ◌^◌, ◌<◌, ◌≤◌, Bool, true, false, not, cond, None, Some, List, [], length, get_or, take, refl, sym, ap, ◌∙◌, arith, zero, suc, min, bit_and, bit_or, w32, ◌||◌}
use Rattle.std.specs.List.{find, range_with_len}
use Rattle.std.specs.Int.{bit_at, bit_not, trailing_zeros}
use Rattle.std.proofs.Math.Bool.{or-true, or-false}
use Rattle.std.proofs.Math.Dec.{eqb}
use Rattle.std.proofs.lemmas.Bool.{eqb-true, eqb-false, ne_eqb}
use Rattle.std.proofs.lemmas.List.Folds.{list_any_more}
use Rattle.std.proofs.lemmas.Nat.{and_le_r}
use Rattle.std.proofs.lemmas.Nat.Bits.{bit_at_set_same, bit_at_set_other, bit_at_and, bit_at_not, bit_at-zero, bit_at-trailing_zeros, bit_at_mask_inside, bit_at_mask_below}
use Rattle.domain_spec.specs.Devices.{all_slots, free_slot, is_taken}
use Rattle.hotplug_core.specs.Slots.{MarksTaken}

-- no slot is taken
pub none_marked : MarksTaken [] 0
none_marked n within = bit_at-zero n

-- one slot more is marked
marked : (is : Bool) (taken : Bool) (word s n : ℕ) → eqb s n ≡ is → s < 32 → bit_at word n ≡ cond taken 1 0 → bit_at (bit_or word (1 * 2 ^ s % 2 ^ 32)) n ≡ cond (taken || is) 1 0
marked true taken word s n same below before =
    ap (λ k. bit_at (bit_or word (1 * 2 ^ s % 2 ^ 32)) k) (sym (eqb-true s n same)) ∙ bit_at_set_same w32 word s below ∙ ap (λ t. cond t 1 0) (sym (or-true taken))
marked false taken word s n same below before =
    bit_at_set_other w32 word s below n (λ e. eqb-false s n same (sym e)) ∙ before ∙ ap (λ t. cond t 1 0) (sym (or-false taken))

taken_more : (slots : List ℕ) (i n : ℕ) → i < length slots → is_taken (take (i + 1) slots) n ≡ (is_taken (take i slots) n || eqb (get_or slots i 0) n)
taken_more slots i n inside = list_any_more (λ used. eqb used n) slots i 0 inside

pub marks_more : (slots : List ℕ) (i word : ℕ) → i < length slots → get_or slots i 0 < 32 → MarksTaken (take i slots) word → MarksTaken (take (i + 1) slots) (bit_or word (1 * 2 ^ get_or slots i 0 % 2 ^ 32))
marks_more slots i word inside below marks n within =
    marked (eqb (get_or slots i 0) n) (is_taken (take i slots) n) word (get_or slots i 0) n refl below (marks n within)
    ∙ ap (λ t. cond t 1 0) (sym (taken_more slots i n inside))

-- a slot that no word has is none of those below 32
pub marks_same : (slots : List ℕ) (i word : ℕ) → i < length slots → 32 ≤ get_or slots i 0 → MarksTaken (take i slots) word → MarksTaken (take (i + 1) slots) word
marks_same slots i word inside above marks n within =
    marks n within ∙ ap (λ t. cond t 1 0) (sym (or-false (is_taken (take i slots) n)) ∙ ap (λ t. is_taken (take i slots) n || t) (sym (ne_eqb (get_or slots i 0) n (λ e. absurd (omega (arith, e))))) ∙ sym (taken_more slots i n inside))

-- nothing passes, and so nothing is found
find_none : (p : ℕ → Bool) (first count : ℕ) → ((n : ℕ) → first ≤ n → n < first + count → p n ≡ false) → find p (range_with_len first count) ≡ None
find_none p first zero fails = refl
find_none p first (suc count) fails =
    let e : p first ≡ false = fails first (omega arith) (omega arith) in
    rw e (find_none p (first + 1) count (λ n from to. fails n (omega arith) (omega arith)))

-- the first number passes, or the least one is among the others
find_from : (is : Bool) (p : ℕ → Bool) (first count least : ℕ) → eqb first least ≡ is → first ≤ least → p least ≡ true → ((n : ℕ) → first ≤ n → n < least → p n ≡ false) → (first + 1 ≤ least → find p (range_with_len (first + 1) count) ≡ Some least) → find p (range_with_len first (suc count)) ≡ Some least
find_from true p first count least same from passes fails later =
    let e : first ≡ least = eqb-true first least same in
    rw e (rw passes refl)
find_from false p first count least other from passes fails later =
    let apart : first ≢ least = eqb-false first least other in
    let e : p first ≡ false = fails first (omega arith) (omega arith) in
    rw e (later (omega arith))

-- the least number that passes is found
find_least : (p : ℕ → Bool) (first count least : ℕ) → first ≤ least → least < first + count → p least ≡ true → ((n : ℕ) → first ≤ n → n < least → p n ≡ false) → find p (range_with_len first count) ≡ Some least
find_least p first zero least from to passes fails = absurd (omega arith)
find_least p first (suc count) least from to passes fails =
    find_from (eqb first least) p first count least refl from passes fails
    (λ later. find_least p (first + 1) count least later (omega arith) passes (λ n above below. fails n (omega arith) below))

all_in_range : all_slots ≡ range_with_len 2 30
unfolding all_slots
all_in_range = refl

turned : (taken : Bool) → min (1 - cond taken 1 0) 1 ≡ cond taken 0 1
turned true = refl
turned false = refl

-- bit n of the word of free slots
free_bit : (slots : List ℕ) (word n : ℕ) → word < 2 ^ 32 → MarksTaken slots word → 2 ≤ n → n < 32 → bit_at (bit_and (bit_not w32 word) 4294967292) n ≡ cond (is_taken slots n) 0 1
free_bit slots word n fits marks from to =
    bit_at_and (bit_not w32 word) 4294967292 n
    ∙ ap (λ b. min (bit_at (bit_not w32 word) n) b) (bit_at_mask_inside 2 32 n from to)
    ∙ ap (λ b. min b 1) (bit_at_not w32 word n fits to ∙ ap (λ b. 1 - b) (marks n to))
    ∙ turned (is_taken slots n)

-- the bits below the slots of devices
low_bit : (word n : ℕ) → n < 2 → bit_at (bit_and (bit_not w32 word) 4294967292) n ≡ 0
low_bit word n below =
    bit_at_and (bit_not w32 word) 4294967292 n
    ∙ ap (λ b. min (bit_at (bit_not w32 word) n) b) (bit_at_mask_below 2 32 n below)
    ∙ omega arith

taken_from : (taken : Bool) (bit : ℕ) → bit ≡ cond taken 0 1 → bit ≡ 0 → not taken ≡ false
taken_from true bit is e = refl
taken_from false bit is e = absurd (omega (arith, is, e))

free_from : (taken : Bool) (bit : ℕ) → bit ≡ cond taken 0 1 → bit ≡ 1 → not taken ≡ true
free_from true bit is e = absurd (omega (arith, is, e))
free_from false bit is e = refl

in_all : (slots : List ℕ) → find (λ slot. not (is_taken slots slot)) (range_with_len 2 30) ≡ free_slot slots
in_all slots = ap (λ all. find (λ slot. not (is_taken slots slot)) all) (sym all_in_range)

pub none_free : (slots : List ℕ) (word : ℕ) → word < 2 ^ 32 → MarksTaken slots word → bit_and (bit_not w32 word) 4294967292 ≡ 0 → None ≡ free_slot slots
none_free slots word fits marks none =
    sym (find_none (λ slot. not (is_taken slots slot)) 2 30 (λ n from to. taken_from (is_taken slots n) _ (free_bit slots word n fits marks from to) (ap (λ w. bit_at w n) none ∙ bit_at-zero n)))
    ∙ in_all slots

-- a bit that is set is none of the two lowest
not_low : (word n : ℕ) → bit_at (bit_and (bit_not w32 word) 4294967292) n ≡ 1 → 2 ≤ n
not_low word zero set = absurd (omega (arith, low_bit word 0 (omega arith), set))
not_low word (suc zero) set = absurd (omega (arith, low_bit word 1 (omega arith), set))
not_low word (suc (suc n)) set = omega arith

least_at : (slots : List ℕ) (word free n : ℕ) → free ≡ bit_and (bit_not w32 word) 4294967292 → word < 2 ^ 32 → MarksTaken slots word → n < 32 → bit_at free n ≡ 1 → ((i : ℕ) → i < n → bit_at free i ≡ 0) → Some n ≡ free_slot slots
least_at slots word free n is fits marks within set clear =
    let from : 2 ≤ n = not_low word n (ap (λ w. bit_at w n) (sym is) ∙ set) in
    sym (find_least (λ slot. not (is_taken slots slot)) 2 30 n from within
    (free_from (is_taken slots n) _ (free_bit slots word n fits marks from within) (ap (λ w. bit_at w n) (sym is) ∙ set))
    (λ i above below. taken_from (is_taken slots i) _ (free_bit slots word i fits marks above (omega arith)) (ap (λ w. bit_at w i) (sym is) ∙ clear i below)))
    ∙ in_all slots

pub least_free : (slots : List ℕ) (word : ℕ) → word < 2 ^ 32 → MarksTaken slots word → bit_and (bit_not w32 word) 4294967292 ≢ 0 → Some (trailing_zeros w32 (bit_and (bit_not w32 word) 4294967292)) ≡ free_slot slots
least_free slots word fits marks some =
    let free = bit_and (bit_not w32 word) 4294967292 in
    let below : free ≤ 4294967292 = and_le_r (bit_not w32 word) 4294967292 in
    let at = bit_at-trailing_zeros w32 free (omega arith) (omega arith) in
    least_at slots word free (trailing_zeros w32 free) refl fits marks at.0 at.1 at.2
