-- What changes one registration by its place.
use Rattle.std.proofs.Common.{◌≡◌, ℕ, zero, suc, ◌+◌, ◌<◌, List, [], ◌∷◌, ◌++◌, drop, take, length, Bool, true, false, not, nat_lt, Option, None, Some, if◌then◌else◌, get_or, set, position, refl, sym, ap, ◌∙◌, arith}
use Rattle.std.specs.List.{position_or_len}
use Rattle.std.proofs.lemmas.Bool.Decides.{nat_tests}
use Rattle.std.proofs.lemmas.List.Quantifiers.{position-Some}
use Rattle.event_queue.specs.Listening.{Listening, emptied, emptied_by, is_of, left_by}

some_not_none : (n : ℕ) → Some n ≡ None → ⊥
some_not_none n e = cc

-- none before this place is the client's, and this one is
record IsFirst (ls : List Listening) (client place : ℕ) (d : Listening) : Type 0 where
  within : place < length ls
  here : is_of client (get_or ls place d) ≡ true
  before : (k : ℕ) → k < place → is_of client (get_or ls k d) ≡ false

later : (l : Listening) (ls : List Listening) (client place : ℕ) (d : Listening) → IsFirst (l ∷ ls) client (suc place) d → IsFirst ls client place d
later l ls client place d h = record {
  within = let w = h.within in omega (arith, w);
  here = h.here;
  before = λ k lt. h.before (suc k) (omega arith);
}

first_not : (l : Listening) (ls : List Listening) (client place : ℕ) (d : Listening) → IsFirst (l ∷ ls) client (suc place) d → is_of client l ≡ false
first_not l ls client place d h = h.before zero (omega arith)

emptied_first : (ls : List Listening) (client place : ℕ) (d : Listening) → IsFirst ls client place d → set ls place (emptied (get_or ls place d)) ≡ emptied_by ls client
emptied_first [] client place d h = absurd (omega (arith, h.within))
emptied_first (l ∷ ls) client zero d h = ap (λ (b : Bool). if b then emptied l ∷ ls else l ∷ emptied_by ls client) (sym h.here)
emptied_first (l ∷ ls) client (suc place) d h =
    ap (λ (rest : List Listening). l ∷ rest) (emptied_first ls client place d (later l ls client place d h))
    ∙ ap (λ (b : Bool). if b then emptied l ∷ ls else l ∷ emptied_by ls client) (sym (first_not l ls client place d h))

left_first : (ls : List Listening) (client place : ℕ) (d : Listening) → IsFirst ls client place d → take place ls ++ drop (suc place) ls ≡ left_by ls client
left_first [] client place d h = absurd (omega (arith, h.within))
left_first (l ∷ ls) client zero d h = ap (λ (b : Bool). if b then ls else l ∷ left_by ls client) (sym h.here)
left_first (l ∷ ls) client (suc place) d h =
    ap (λ (rest : List Listening). l ∷ rest) (left_first ls client place d (later l ls client place d h))
    ∙ ap (λ (b : Bool). if b then ls else l ∷ left_by ls client) (sym (first_not l ls client place d h))

-- none of them is the client's

lt_case : (n m : ℕ) (b : Bool) → nat_lt n m ≡ b → (if nat_lt (1 + n) (suc m) then Some (1 + n) else None) ≡ None → (if b then Some n else None) ≡ None
lt_case n m true e f = let g : nat_lt (1 + n) (suc m) ≡ true = grind (arith, nat_tests, e) in absurd (some_not_none (1 + n) (ap (λ (b : Bool). if b then Some (1 + n) else None) (sym g) ∙ f))
lt_case n m false e f = refl

none_if : (b : Bool) (n m : ℕ) → (let first = (if not b then 1 + n else 0) in if nat_lt first (suc m) then Some first else None) ≡ None
    → (b ≡ false) × ((if nat_lt n m then Some n else None) ≡ None)
none_if true n m e = let g : nat_lt 0 (suc m) ≡ true = grind (arith, nat_tests) in absurd (some_not_none 0 (ap (λ (b : Bool). if b then Some 0 else None) (sym g) ∙ e))
none_if false n m e = (refl, lt_case n m (nat_lt n m) refl e)

none_after : (l : Listening) (ls : List Listening) (client : ℕ) → position (is_of client) (l ∷ ls) ≡ None → (is_of client l ≡ false) × (position (is_of client) ls ≡ None)
none_after l ls client e = none_if (is_of client l) (position_or_len (is_of client) ls) (length ls) e

pub none_emptied : (ls : List Listening) (client : ℕ) → position (is_of client) ls ≡ None → ls ≡ emptied_by ls client
none_emptied [] client e = refl
none_emptied (l ∷ ls) client e =
    let h = none_after l ls client e in
    ap (λ (rest : List Listening). l ∷ rest) (none_emptied ls client h.1)
    ∙ ap (λ (b : Bool). if b then emptied l ∷ ls else l ∷ emptied_by ls client) (sym h.0)

pub none_left : (ls : List Listening) (client : ℕ) → position (is_of client) ls ≡ None → ls ≡ left_by ls client
none_left [] client e = refl
none_left (l ∷ ls) client e =
    let h = none_after l ls client e in
    ap (λ (rest : List Listening). l ∷ rest) (none_left ls client h.1)
    ∙ ap (λ (b : Bool). if b then ls else l ∷ left_by ls client) (sym h.0)

first_at : (ls : List Listening) (client place : ℕ) (d : Listening) → position (is_of client) ls ≡ Some place → IsFirst ls client place d
first_at ls client place d e = let h = position-Some (is_of client) ls place d e in record { within = h.0; here = h.1; before = h.2 }

pub emptied_at : (ls : List Listening) (client place : ℕ) (d : Listening) → position (is_of client) ls ≡ Some place → set ls place (emptied (get_or ls place d)) ≡ emptied_by ls client
emptied_at ls client place d e = emptied_first ls client place d (first_at ls client place d e)

pub left_at : (ls : List Listening) (client place : ℕ) (d : Listening) → position (is_of client) ls ≡ Some place → take place ls ++ drop (suc place) ls ≡ left_by ls client
left_at ls client place d e = left_first ls client place d (first_at ls client place d e)
