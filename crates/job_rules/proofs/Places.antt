-- What one look changes in the list of those who wait, and what a caller leaves that goes.
use Rattle.std.proofs.Common.{◌≡◌, ℕ, zero, suc, ◌+◌, ◌<◌, ◌≤◌, List, [], ◌∷◌, ◌++◌, drop, filter, map, min, take, length, Bool, true, false, not, ◌||◌, nat_lt, Option, None, Some, if◌then◌else◌, get_or, set, position, refl, sym, ap, ◌∙◌, arith}
use Rattle.std.specs.List.{list_any, position_or_len}
use Rattle.std.proofs.lemmas.Bool.Decides.{nat_tests}
use Rattle.std.proofs.lemmas.List.{length-map}
use Rattle.std.proofs.lemmas.List.Quantifiers.{position-Some}
use Rattle.domain_spec.specs.Types.{Who}
use Rattle.domain_spec.specs.Cell.{Waiter}
use Rattle.domain_spec.specs.Kept.{looked, without_caller}
use Rattle.domain_spec.specs.Open.{AreDistinct, IsCrowded, is_among, is_same_who}
use Rattle.job_rules.specs.QueueWaiting.{is_of}

some_not_none : (n : ℕ) → Some n ≡ None → ⊥
some_not_none n e = cc

-- the caller that looked once more
abbrev more : Waiter → Waiter
more w = record { who = w.who; looks = min (w.looks + 1) 1000 }

-- none before this place is the caller, and this one is
record IsFirst (ws : List Waiter) (who : Who) (place : ℕ) (d : Waiter) : Type 0 where
  within : place < length ws
  here : is_of who (get_or ws place d) ≡ true
  before : (k : ℕ) → k < place → is_of who (get_or ws k d) ≡ false

later : (w : Waiter) (ws : List Waiter) (who : Who) (place : ℕ) (d : Waiter) → IsFirst (w ∷ ws) who (suc place) d → IsFirst ws who place d
later w ws who place d h = record {
  within = let p = h.within in omega (arith, p);
  here = h.here;
  before = λ k lt. h.before (suc k) (omega arith);
}

first_not : (w : Waiter) (ws : List Waiter) (who : Who) (place : ℕ) (d : Waiter) → IsFirst (w ∷ ws) who (suc place) d → is_of who w ≡ false
first_not w ws who place d h = h.before zero (omega arith)

first_at : (ws : List Waiter) (who : Who) (place : ℕ) (d : Waiter) → position (is_of who) ws ≡ Some place → IsFirst ws who place d
first_at ws who place d e = let h = position-Some (is_of who) ws place d e in record { within = h.0; here = h.1; before = h.2 }

looked_first : (ws : List Waiter) (who : Who) (place : ℕ) (d : Waiter) → IsFirst ws who place d → set ws place (more (get_or ws place d)) ≡ looked ws who
looked_first [] who place d h = absurd (omega (arith, h.within))
looked_first (w ∷ ws) who zero d h = ap (λ (b : Bool). if b then more w ∷ ws else w ∷ looked ws who) (sym h.here)
looked_first (w ∷ ws) who (suc place) d h =
    ap (λ (rest : List Waiter). w ∷ rest) (looked_first ws who place d (later w ws who place d h))
    ∙ ap (λ (b : Bool). if b then more w ∷ ws else w ∷ looked ws who) (sym (first_not w ws who place d h))

pub looked_at : (ws : List Waiter) (who : Who) (place : ℕ) (d : Waiter) → position (is_of who) ws ≡ Some place → set ws place (more (get_or ws place d)) ≡ looked ws who
looked_at ws who place d e = looked_first ws who place d (first_at ws who place d e)

-- none of them is the caller

lt_case : (n m : ℕ) (b : Bool) → nat_lt n m ≡ b → (if nat_lt (1 + n) (suc m) then Some (1 + n) else None) ≡ None → (if b then Some n else None) ≡ None
lt_case n m true e f = let g : nat_lt (1 + n) (suc m) ≡ true = grind (arith, nat_tests, e) in absurd (some_not_none (1 + n) (ap (λ (b : Bool). if b then Some (1 + n) else None) (sym g) ∙ f))
lt_case n m false e f = refl

none_if : (b : Bool) (n m : ℕ) → (let first = (if not b then 1 + n else 0) in if nat_lt first (suc m) then Some first else None) ≡ None
    → (b ≡ false) × ((if nat_lt n m then Some n else None) ≡ None)
none_if true n m e = let g : nat_lt 0 (suc m) ≡ true = grind (arith, nat_tests) in absurd (some_not_none 0 (ap (λ (b : Bool). if b then Some 0 else None) (sym g) ∙ e))
none_if false n m e = (refl, lt_case n m (nat_lt n m) refl e)

none_after : (w : Waiter) (ws : List Waiter) (who : Who) → position (is_of who) (w ∷ ws) ≡ None → (is_of who w ≡ false) × (position (is_of who) ws ≡ None)
none_after w ws who e = none_if (is_of who w) (position_or_len (is_of who) ws) (length ws) e

pub looked_new : (ws : List Waiter) (who : Who) → position (is_of who) ws ≡ None → ws ++ record { who = who; looks = 1 } ∷ [] ≡ looked ws who
looked_new [] who e = refl
looked_new (w ∷ ws) who e =
    let h = none_after w ws who e in
    ap (λ (rest : List Waiter). w ∷ rest) (looked_new ws who h.1) ∙ ap (λ (b : Bool). if b then more w ∷ ws else w ∷ looked ws who) (sym h.0)

pub none_left : (ws : List Waiter) (who : Who) → position (is_of who) ws ≡ None → ws ≡ without_caller ws who
none_left [] who e = refl
none_left (w ∷ ws) who e =
    let h = none_after w ws who e in
    ap (λ (rest : List Waiter). w ∷ rest) (none_left ws who h.1) ∙ ap (λ (b : Bool). if not b then w ∷ without_caller ws who else without_caller ws who) (sym h.0)

-- the others, where one goes

same_who-sym : (a b : Who) → is_same_who a b ≡ is_same_who b a
same_who-sym a b = grind arith

same_other : (a b c : Who) → is_same_who a b ≡ true → is_same_who a c ≡ false → is_same_who c b ≡ false
same_other a b c e f = grind (arith, e, f)

or_parts : (b c : Bool) → (b || c) ≡ false → (b ≡ false) × (c ≡ false)
or_parts true c e = cc
or_parts false c e = (refl, e)

others_stay : (ws : List Waiter) (w : Waiter) (who : Who) → is_same_who w.who who ≡ true → is_among (map (λ x. x.who) ws) w.who ≡ false → ws ≡ without_caller ws who
others_stay [] w who e none = refl
others_stay (x ∷ ws) w who e none =
    let h = or_parts (is_same_who w.who x.who) (is_among (map (λ y. y.who) ws) w.who) none in
    ap (λ (rest : List Waiter). x ∷ rest) (others_stay ws w who e h.1)
    ∙ ap (λ (b : Bool). if not b then x ∷ without_caller ws who else without_caller ws who) (sym (same_other w.who who x.who e h.0))

left_first : (ws : List Waiter) (who : Who) (place : ℕ) (d : Waiter) → AreDistinct (map (λ w. w.who) ws) → IsFirst ws who place d → take place ws ++ drop (suc place) ws ≡ without_caller ws who
left_first [] who place d apart h = absurd (omega (arith, h.within))
left_first (w ∷ ws) who zero d apart h =
    others_stay ws w who h.here apart.0 ∙ ap (λ (b : Bool). if not b then w ∷ without_caller ws who else without_caller ws who) (sym h.here)
left_first (w ∷ ws) who (suc place) d apart h =
    ap (λ (rest : List Waiter). w ∷ rest) (left_first ws who place d apart.1 (later w ws who place d h))
    ∙ ap (λ (b : Bool). if not b then w ∷ without_caller ws who else without_caller ws who) (sym (first_not w ws who place d h))

pub left_at : (ws : List Waiter) (who : Who) (place : ℕ) (d : Waiter) → AreDistinct (map (λ w. w.who) ws) → position (is_of who) ws ≡ Some place
    → take place ws ++ drop (suc place) ws ≡ without_caller ws who
left_at ws who place d apart e = left_first ws who place d apart (first_at ws who place d e)

-- whether 32 others wait

among_at : (ws : List Waiter) (who : Who) (place : ℕ) (d : Waiter) → IsFirst ws who place d → is_among (map (λ w. w.who) ws) who ≡ true
among_at [] who place d h = absurd (omega (arith, h.within))
among_at (w ∷ ws) who zero d h = ap (λ (b : Bool). b || is_among (map (λ x. x.who) ws) who) (same_who-sym who w.who ∙ h.here)
among_at (w ∷ ws) who (suc place) d h =
    ap (λ (b : Bool). b || is_among (map (λ x. x.who) ws) who) (same_who-sym who w.who ∙ first_not w ws who place d h) ∙ among_at ws who place d (later w ws who place d h)

among_none : (ws : List Waiter) (who : Who) → position (is_of who) ws ≡ None → is_among (map (λ w. w.who) ws) who ≡ false
among_none [] who e = refl
among_none (w ∷ ws) who e =
    let h = none_after w ws who e in
    ap (λ (b : Bool). b || is_among (map (λ x. x.who) ws) who) (same_who-sym who w.who ∙ h.0) ∙ among_none ws who h.1

not_both : true ≡ false → ⊥
not_both e = cc

-- a caller that waits finds no crowd, and one after fewer than 32 neither
pub not_crowded : (ws : List Waiter) (who : Who) (place : ℕ) (d : Waiter) → position (is_of who) ws ≡ Some place → IsCrowded (map (λ w. w.who) ws) who → ⊥
not_crowded ws who place d e h = not_both (sym (among_at ws who place d (first_at ws who place d e)) ∙ h.others)

pub few_no_crowd : (ws : List Waiter) (who : Who) → length ws < 32 → IsCrowded (map (λ w. w.who) ws) who → ⊥
few_no_crowd ws who few h = let c = h.count in let n = length-map ws (λ w. w.who) in omega (arith, few, c, n)

pub is_crowded : (ws : List Waiter) (who : Who) → AreDistinct (map (λ w. w.who) ws) → length ws ≡ 32 → position (is_of who) ws ≡ None → IsCrowded (map (λ w. w.who) ws) who
is_crowded ws who apart count e = record { count = length-map ws (λ w. w.who) ∙ count; distinct = apart; others = among_none ws who e }
