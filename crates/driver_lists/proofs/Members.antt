-- The elements of lists.
use Rattle.std.proofs.Common.{◌≡◌, ◌⊎◌, inl, inr, ⊎_elim, ◌<◌, ℕ, zero, suc, List, [], ◌∷◌, map, Contains, get_or, refl, subst, arith}
use Rattle.std.proofs.lemmas.List.Elements.{Contains-append_cases, Contains-append_right}

module _ {X : Type 0} where
  pub contains_here : (x : X) (xs : List X) → Contains (x ∷ xs) x
  contains_here x xs = (0, omega arith, refl)

  pub contains_later : (y x : X) (xs : List X) → Contains xs x → Contains (y ∷ xs) x
  contains_later y x xs h = Contains-append_right (y ∷ []) xs x h

  only : (y x : X) (k : ℕ) → k < 1 → get_or (y ∷ []) k x ≡ x → y ≡ x
  only y x zero lt is = is
  only y x (suc k) lt is = absurd (omega (arith, lt))

  pub contains_cases : (y x : X) (xs : List X) → Contains (y ∷ xs) x → (y ≡ x) ⊎ Contains xs x
  contains_cases y x xs h = ⊎_elim
      (λ (one : Contains (y ∷ []) x). inl (only y x one.0 one.1 one.2))
      (λ (later : Contains xs x). inr later)
      (Contains-append_cases (y ∷ []) xs x h)

  pub contains_none : (x : X) → Contains [] x → ⊥
  contains_none x h = omega (arith, h.1)

module _ {X Y : Type 0} where
  pub contains_map : (f : X → Y) (xs : List X) (x : X) → Contains xs x → Contains (map f xs) (f x)
  contains_map f [] x there = absurd (contains_none x there)
  contains_map f (y ∷ xs) x there = ⊎_elim
      (λ (same : y ≡ x). subst (λ (z : X). Contains (f y ∷ map f xs) (f z)) same (contains_here (f y) (map f xs)))
      (λ (later : Contains xs x). contains_later (f y) (f x) (map f xs) (contains_map f xs x later))
      (contains_cases y x xs there)
