-- The first place that passes a test, after one place was written.
use Rattle.std.proofs.Common.{◌≡◌, ◌≢◌, ◌⊎◌, ℕ, ◌<◌, ◌≤◌, Bool, true, false, cond, ltb, List, length, length-set, get_or, set, Option, None, Some, refl, sym, ap, ◌∙◌, inl, inr, ⊎_elim, arith}
use Rattle.std.specs.List.{position, position_or_len}
use Rattle.std.proofs.lemmas.Bool.{cases_lt, cond-true, cond-false, lt-ltb, le-ltb}
use Rattle.std.proofs.lemmas.Option.{none-some}
use Rattle.std.proofs.lemmas.List.Folds.{position_or_len-set}
use Rattle.std.proofs.lemmas.List.Sums.{position_or_len_is, fails_before_first}

module _ {X : Type 0} (p : X → Bool) (d : X) where
  -- the first is the only one
  pub position_is : (xs : List X) (i : ℕ) → i < length xs → p (get_or xs i d) ≡ true → ((k : ℕ) → k < length xs → k ≢ i → p (get_or xs k d) ≡ false) → position p xs ≡ Some i
  position_is xs i within here others =
      let first : position_or_len p xs ≡ i = position_or_len_is p xs i d (omega (arith, within)) (λ k lt. others k (omega (arith, lt, within)) (λ e. omega (arith, lt, e))) (λ _. here) in
      ap (λ (n : ℕ). cond (ltb n (length xs)) (Some n) None) first ∙ cond-true (ltb i (length xs)) (Some i) None (lt-ltb i (length xs) within)

  pub position_none : (xs : List X) → ((k : ℕ) → k < length xs → p (get_or xs k d) ≡ false) → position p xs ≡ None
  position_none xs none =
      let n : ℕ = length xs in
      let first : position_or_len p xs ≡ n = position_or_len_is p xs n d (omega arith) none (λ lt. absurd (omega (arith, lt))) in
      ap (λ (m : ℕ). cond (ltb m n) (Some m) None) first ∙ cond-false (ltb n n) (Some n) None (le-ltb n n (omega arith))

  pub none_passes : (xs : List X) → position p xs ≡ None → (k : ℕ) → k < length xs → p (get_or xs k d) ≡ false
  none_passes xs none k within =
      let n : ℕ = position_or_len p xs in
      ⊎_elim
      (λ (lt : n < length xs). absurd (none-some n (sym none ∙ cond-true (ltb n (length xs)) (Some n) None (lt-ltb n (length xs) lt))))
      (λ (le : length xs ≤ n). fails_before_first p xs k d (omega (arith, within, le)))
      (cases_lt n (length xs))

  pub position_same : (xs : List X) (i : ℕ) (y : X) → p y ≡ p (get_or xs i d) → position p (set xs i y) ≡ position p xs
  position_same xs i y same = ap (λ (x : ℕ × ℕ). cond (ltb x.0 x.1) (Some x.0) None) (λ j. (position_or_len-set p xs i y d same j, length-set xs i y j))
