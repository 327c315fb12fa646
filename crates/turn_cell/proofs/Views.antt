-- Lists of views after one of them changed, and sums over them.
use Rattle.std.proofs.Common.{◌≡◌, ◌≢◌, ◌⊎◌, ℕ, zero, suc, ◌+◌, ◌<◌, ◌≤◌, List, [], ◌∷◌, ◌++◌, length, map, set, refl, sym, ap, ◌∙◌, subst, ⊎_elim, inl, inr, arith}
use Rattle.std.specs.Prelude.{sum_by}
use Rattle.std.proofs.lemmas.List.Sums.{sum_by-cons}
use mathlib.Core.Option.{some, some-ne-none, some-injective}
use lib.ListN.{get_elem?}
use Rattle.atomic_table.proofs.Lists.{at_set}

module _ {A : Type 0} where
  -- a fact about each view stays, where it holds of the new one
  pub each_set : (F : ℕ → A → Type 0) (views : List A) (id : ℕ) (w : A) → F id w → ((j : ℕ) (v : A) → j ≢ id → get_elem? views j ≡ some v → F j v) → (j : ℕ) (v : A) → get_elem? (set views id w) j ≡ some v → F j v
  each_set F views id w new others j v e =
      ⊎_elim
      (λ (x : (j ≡ id) × (w ≡ v)). subst (λ (y : ℕ × A). F y.0 y.1) (λ i. (sym x.0 i, x.1 i)) new)
      (λ (x : (j ≢ id) × (get_elem? views j ≡ some v)). others j v x.0 x.1)
      (at_set views id j w v e)

  pub at_length : (views : List A) (id : ℕ) (v : A) → get_elem? views id ≡ some v → id < length views
  at_length [] id v e = absurd (some-ne-none v (sym e))
  at_length (x ∷ xs) zero v e = omega arith
  at_length (x ∷ xs) (suc id) v e = let h = at_length xs id v e in omega arith

  -- one place has one view
  pub one_at : (views : List A) (i j : ℕ) (v w : A) → get_elem? views i ≡ some v → get_elem? views j ≡ some w → i ≡ j → v ≡ w
  one_at views i j v w a b same = some-injective v w (sym a ∙ (ap (λ (k : ℕ). get_elem? views k) same ∙ b))

  pub sum_set : (f : A → ℕ) (views : List A) (id : ℕ) (v w : A) → get_elem? views id ≡ some v → sum_by f (set views id w) + f v ≡ sum_by f views + f w
  sum_set f [] id v w e = absurd (some-ne-none v (sym e))
  sum_set f (x ∷ xs) zero v w e = let h : f x ≡ f v = ap f (some-injective x v e) in omega (arith, sum_by-cons f x xs, sum_by-cons f w xs)
  sum_set f (x ∷ xs) (suc id) v w e = let h = sum_set f xs id v w e in omega (arith, sum_by-cons f x xs, sum_by-cons f x (set xs id w))

  pub same_sum : (f : A → ℕ) (views : List A) (id : ℕ) (v w : A) → get_elem? views id ≡ some v → f w ≡ f v → sum_by f (set views id w) ≡ sum_by f views
  same_sum f views id v w at e = omega (arith, sum_set f views id v w at, e)

  sum_nothing : (f : A → ℕ) (views : List A) → ((i : ℕ) (v : A) → get_elem? views i ≡ some v → f v ≡ 0) → sum_by f views ≡ 0
  sum_nothing f [] none = refl
  sum_nothing f (x ∷ xs) none = let h = none 0 x refl in let k = sum_nothing f xs (λ i v e. none (suc i) v e) in omega (arith, sum_by-cons f x xs)

  -- where all others have nothing, one has all
  pub sum_alone : (f : A → ℕ) (views : List A) (id : ℕ) (v : A) → get_elem? views id ≡ some v → ((i : ℕ) (u : A) → get_elem? views i ≡ some u → i ≢ id → f u ≡ 0) → sum_by f views ≤ f v
  sum_alone f [] id v at none = absurd (some-ne-none v (sym at))
  sum_alone f (x ∷ xs) zero v at none = let h : f x ≡ f v = ap f (some-injective x v at) in let k = sum_nothing f xs (λ i u e. none (suc i) u e (λ z. omega (arith, z))) in omega (arith, sum_by-cons f x xs)
  sum_alone f (x ∷ xs) (suc id) v at none = let h = none 0 x refl (λ z. omega (arith, z)) in let k = sum_alone f xs id v at (λ i u e ne. none (suc i) u e (λ z. ne (omega (arith, z)))) in omega (arith, sum_by-cons f x xs)

  pub one_le : (f : A → ℕ) (views : List A) (i : ℕ) (v : A) → get_elem? views i ≡ some v → f v ≤ sum_by f views
  one_le f [] i v e = absurd (some-ne-none v (sym e))
  one_le f (x ∷ xs) zero v e = let h : f x ≡ f v = ap f (some-injective x v e) in omega (arith, sum_by-cons f x xs)
  one_le f (x ∷ xs) (suc i) v e = let h = one_le f xs i v e in omega (arith, sum_by-cons f x xs)

  -- two views together have no more than all
  pub two_le : (f : A → ℕ) (views : List A) (i j : ℕ) (v w : A) → get_elem? views i ≡ some v → get_elem? views j ≡ some w → i ≢ j → f v + f w ≤ sum_by f views
  two_le f [] i j v w a b ne = absurd (some-ne-none v (sym a))
  two_le f (x ∷ xs) zero zero v w a b ne = absurd (ne refl)
  two_le f (x ∷ xs) zero (suc j) v w a b ne = let h : f x ≡ f v = ap f (some-injective x v a) in let k = one_le f xs j w b in omega (arith, sum_by-cons f x xs)
  two_le f (x ∷ xs) (suc i) zero v w a b ne = let h : f x ≡ f w = ap f (some-injective x w b) in let k = one_le f xs i v a in omega (arith, sum_by-cons f x xs)
  two_le f (x ∷ xs) (suc i) (suc j) v w a b ne = let h = two_le f xs i j v w a b (λ e. ne (ap suc e)) in omega (arith, sum_by-cons f x xs)

  -- the one place of a list of one
  pub only : (x : A) (i : ℕ) (v : A) → get_elem? (x ∷ []) i ≡ some v → (i ≡ 0) × (x ≡ v)
  only x zero v e = (refl, some-injective x v e)
  only x (suc i) v e = absurd (some-ne-none v (sym e))

  -- a list and one view more
  pub at_end : (l : List A) (a b : A) (j : ℕ) → get_elem? (l ++ a ∷ []) j ≡ some b → (get_elem? l j ≡ some b) ⊎ ((j ≡ length l) × (a ≡ b))
  at_end [] a b zero e = inr (refl, some-injective a b e)
  at_end [] a b (suc j) e = absurd (some-ne-none b (sym e))
  at_end (x ∷ xs) a b zero e = inl e
  at_end (x ∷ xs) a b (suc j) e = ⊎_elim (λ l. inl l) (λ (p : (j ≡ length xs) × (a ≡ b)). inr (ap suc p.0, p.1)) (at_end xs a b j e)

module _ {A C : Type 0} (f : A → C) where
  pub map_set : (l : List A) (i : ℕ) (w : A) → map f (set l i w) ≡ set (map f l) i (f w)
  map_set [] i w = refl
  map_set (x ∷ xs) zero w = refl
  map_set (x ∷ xs) (suc i) w = ap (λ (t : List C). f x ∷ t) (map_set xs i w)

  -- what is at a place of the mapped list
  pub at_mapped : (l : List A) (i : ℕ) (c : C) → get_elem? (map f l) i ≡ some c → (a : A) × (get_elem? l i ≡ some a) × (f a ≡ c)
  at_mapped [] i c e = absurd (some-ne-none c (sym e))
  at_mapped (x ∷ xs) zero c e = (x, refl, some-injective (f x) c e)
  at_mapped (x ∷ xs) (suc i) c e = at_mapped xs i c e

  pub at_map : (l : List A) (i : ℕ) (a : A) → get_elem? l i ≡ some a → get_elem? (map f l) i ≡ some (f a)
  at_map [] i a e = absurd (some-ne-none a (sym e))
  at_map (x ∷ xs) zero a e = ap (λ (y : A). some (f y)) (some-injective x a e)
  at_map (x ∷ xs) (suc i) a e = at_map xs i a e

  -- where a change keeps what is mapped, the mapped list stays
  pub map_set_same : (l : List A) (i : ℕ) (v w : A) → get_elem? l i ≡ some v → f w ≡ f v → map f (set l i w) ≡ map f l
  map_set_same [] i v w at e = refl
  map_set_same (x ∷ xs) zero v w at e = ap (λ (c : C). c ∷ map f xs) (e ∙ ap f (sym (some-injective x v at)))
  map_set_same (x ∷ xs) (suc i) v w at e = ap (λ (t : List C). f x ∷ t) (map_set_same xs i v w at e)
