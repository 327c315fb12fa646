-- A hold and its release undo one another.
use Rattle.std.proofs.Common.{◌≡◌, ◌+◌, ◌<◌, ◌∙◌, ℕ, zero, suc, Bool, false, List, [], ◌∷◌, slice_index, replicate, refl, sym, ap, subst, arith}
use Rattle.book_spec.specs.Slots.{no_holds}
use Rattle.object_list.specs.Keeping.{meaning}
use Rattle.object_list.specs.Turns.{HasReleased, ListPassed, one_more}
use Rattle.pass_rows.specs.Resting.{IsIdle}
use Rattle.types_base.specs.declared.caller.Front.{Front}
use Rattle.types_base.specs.Limits.{most_domains}

more_at : (slot : ℕ) (x y : ℕ) → x + 1 ≡ y + 1 → x ≡ y
more_at slot x y e = omega (arith, e)

-- with one hold more at a slot each, both held the same
pub one_more_same : (slot : ℕ) (xs ys : List ℕ) → one_more slot xs ≡ one_more slot ys → xs ≡ ys
one_more_same slot [] [] e = refl
one_more_same slot [] (y ∷ ys) e = absurd (no slot e)
  where
    no : (k : ℕ) → one_more k [] ≡ one_more k (y ∷ ys) → ⊥
    no zero f = cc
    no (suc k) f = cc
one_more_same slot (x ∷ xs) [] e = absurd (no slot e)
  where
    no : (k : ℕ) → one_more k (x ∷ xs) ≡ one_more k [] → ⊥
    no zero f = cc
    no (suc k) f = cc
one_more_same zero (x ∷ xs) (y ∷ ys) e =
    let head : x ≡ y = more_at 0 x y (ap (λ (l : List ℕ). slice_index l 0) e) in
    let tail : xs ≡ ys = ap rest e in
    λ i. head i ∷ tail i
  where
    rest : List ℕ → List ℕ
    rest [] = []
    rest (z ∷ zs) = zs
one_more_same (suc k) (x ∷ xs) (y ∷ ys) e =
    let head : x ≡ y = ap (λ (l : List ℕ). slice_index l 0) e in
    let tail : xs ≡ ys = one_more_same k xs ys (ap rest e) in
    λ i. head i ∷ tail i
  where
    rest : List ℕ → List ℕ
    rest [] = []
    rest (z ∷ zs) = zs

zeros : (n slot : ℕ) → slice_index (replicate n 0) slot ≡ 0
zeros zero slot = refl
zeros (suc n) zero = refl
zeros (suc n) (suc slot) = zeros n slot

held_by_some : (n slot : ℕ) (share : List ℕ) → 0 < slice_index share slot → share ≡ replicate n 0 → ⊥
held_by_some n slot share some free =
    let here : 0 < slice_index (replicate n 0) slot = subst (λ (l : List ℕ). 0 < slice_index l slot) free some in
    let none : slice_index (replicate n 0) slot ≡ 0 = zeros n slot in
    omega (arith, here, none)

-- a pass that holds a slot is not one that holds none
pub held_not_free : (slot : ℕ) (share : List ℕ) → 0 < slice_index share slot → share ≡ no_holds → ⊥
unfolding no_holds
held_not_free slot share some free = held_by_some most_domains slot share some free

-- the pass holds nothing again
pub is_idle_again : (slot : ℕ) (front : Front) (occupied : Bool) (had after : ListPassed) → HasReleased slot front occupied had after → had.spent ≡ false → had.share ≡ one_more slot no_holds → IsIdle meaning after
is_idle_again slot front occupied had after released fresh once = record {
  fresh = released.went.spent ∙ fresh;
  empty = one_more_same slot after.share no_holds (sym released.share ∙ once);
}
