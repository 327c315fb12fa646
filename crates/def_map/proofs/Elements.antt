-- The elements of lists, and lists in order.
use Rattle.std.proofs.Common.{◌≡◌, ◌⊎◌, inl, inr, ⊎_elim, ◌<◌, ◌+◌, ℕ, zero, suc, Bool, true, false, Ordering, Less, Equal, Greater, List, [], ◌∷◌, map, length, get_or, bytes_eq, Contains, refl, sym, ap, ◌∙◌, subst, arith}
use Rattle.std.specs.Cmp.Lexicographic.{nat_list_cmp_total, on_texts, slice_cmp, texts_ties}
use Rattle.std.specs.List.{AllByRecursion, IsDistinct}
use Rattle.std.specs.List.Sorted.{IsSortedBy, IsStrictlySortedBy}
use Rattle.std.specs.Ordering.{is_eq, is_lt, nat_cmp, ordering_reverse}
use Rattle.std.proofs.lemmas.List.{get_or-map, length-map}
use Rattle.std.proofs.lemmas.List.Elements.{Contains-append_cases, Contains-append_right}
use Rattle.std.proofs.lemmas.Map.Keys.{apart_from_distinct, sorted_from_all_adjacent}

module _ {X : Type 0} where
  pub contains_here : (x : X) (xs : List X) → Contains (x ∷ xs) x
  contains_here x xs = (0, omega arith, refl)

  pub contains_later : (y x : X) (xs : List X) → Contains xs x → Contains (y ∷ xs) x
  contains_later y x xs h = Contains-append_right (y ∷ []) xs x h

  only : (y x : X) (k : ℕ) → k < 1 → get_or (y ∷ []) k x ≡ x → y ≡ x
  only y x zero lt is = is
  only y x (suc k) lt is = absurd (omega (arith, lt))

  pub contains_cases : (y x : X) (xs : List X) → Contains (y ∷ xs) x → (y ≡ x) ⊎ Contains xs x
  contains_cases y x xs h = ⊎_elim
      (λ (one : Contains (y ∷ []) x). inl (only y x one.0 one.1 one.2))
      (λ (later : Contains xs x). inr later)
      (Contains-append_cases (y ∷ []) xs x h)

  pub contains_none : (x : X) → Contains [] x → ⊥
  contains_none x h = omega (arith, h.1)

  -- what holds of each element, and what of one follows
  pub by_elements : (P : X → Type 0) (xs : List X) → ((x : X) → Contains xs x → P x) → AllByRecursion P xs
  by_elements P [] all = tt
  by_elements P (x ∷ xs) all = (all x (contains_here x xs), by_elements P xs (λ y h. all y (contains_later x y xs h)))

  pub of_element : (P : X → Type 0) (xs : List X) (x : X) → AllByRecursion P xs → Contains xs x → P x
  of_element P [] x all h = absurd (contains_none x h)
  of_element P (y ∷ xs) x all h = ⊎_elim
      (λ (same : y ≡ x). subst P same all.0)
      (λ (later : Contains xs x). of_element P xs x all.1 later)
      (contains_cases y x xs h)

  -- texts that differ, one after another without falling, rise
  pub rises : (name : X → List ℕ) (xs : List X) → IsSortedBy (λ x y. is_lt (slice_cmp nat_cmp (name x) (name y))) xs → IsDistinct (λ x y. bytes_eq (name x) (name y)) xs → IsStrictlySortedBy (λ x y. slice_cmp nat_cmp (name x) (name y)) xs
  unfolding IsStrictlySortedBy
  rises name [] sorted apart = tt
  rises name (x ∷ xs) sorted apart = sorted_from_all_adjacent (on_texts name) (x ∷ xs) x
      (λ k lt. below (name (get_or (x ∷ xs) k x)) (name (get_or (x ∷ xs) (k + 1) x)) (sorted k x (omega arith) lt)
      (apart_from_distinct (λ x y. bytes_eq (name x) (name y)) (x ∷ xs) k (k + 1) x apart (omega arith) lt))
    where
      by_order : (one other : List ℕ) (r : Ordering) → slice_cmp nat_cmp one other ≡ r → is_lt (slice_cmp nat_cmp other one) ≡ false → bytes_eq one other ≡ false → r ≡ Less
      by_order one other Less is not_below differ = refl
      by_order one other Equal is not_below differ = absurd (let same : false ≡ true = sym differ ∙ texts_ties one other ∙ ap is_eq is in cc)
      by_order one other Greater is not_below differ = absurd (let less : false ≡ true = sym not_below ∙ ap is_lt (nat_list_cmp_total.antisymm other one ∙ ap ordering_reverse is) in cc)

      below : (one other : List ℕ) → is_lt (slice_cmp nat_cmp other one) ≡ false → bytes_eq one other ≡ false → slice_cmp nat_cmp one other ≡ Less
      below one other not_below differ = by_order one other (slice_cmp nat_cmp one other) refl not_below differ

module _ {X Y : Type 0} where
  pub contains_map : (f : X → Y) (xs : List X) (x : X) → Contains xs x → Contains (map f xs) (f x)
  contains_map f [] x h = absurd (contains_none x h)
  contains_map f (y ∷ xs) x h = ⊎_elim
      (λ (same : y ≡ x). subst (λ z. Contains (f y ∷ map f xs) (f z)) same (contains_here (f y) (map f xs)))
      (λ (later : Contains xs x). contains_later (f y) (f x) (map f xs) (contains_map f xs x later))
      (contains_cases y x xs h)

  -- what is sorted by a test of what it shows shows a sorted list
  pub sorted_map : (f : X → Y) (lt : Y → Y → Bool) (xs : List X) → IsSortedBy (λ x y. lt (f x) (f y)) xs → IsSortedBy lt (map f xs)
  sorted_map f lt [] sorted k d low high = absurd (omega (arith, high))
  sorted_map f lt (x ∷ xs) sorted k d low high =
      let long : k + 1 < length (x ∷ xs) = simp length-map at high in
      (λ i. lt (get_or-map f (x ∷ xs) (k + 1) x d long i) (get_or-map f (x ∷ xs) k x d (omega (arith, long)) i))
      ∙ sorted k x low long
