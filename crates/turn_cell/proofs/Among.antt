-- The numbers of ended passes.
use Rattle.std.proofs.Common.{◌≡◌, ◌⊎◌, ℕ, List, [], ◌∷◌, ◌++◌, refl, ⊎_elim, inl, inr}
use Rattle.history_spec.specs.declared.history.Ended.{Ended}
use Rattle.turn_cell.specs.Known.{IsAmong, NoTwice}

module _ {M : Type 0} where
  pub among_append : (n : ℕ) (xs ys : List (Ended M)) → IsAmong n (xs ++ ys) → IsAmong n xs ⊎ IsAmong n ys
  among_append n [] ys m = inr m
  among_append n (x ∷ xs) ys m = ⊎_elim (λ (e : x.number ≡ n). inl (inl e)) (λ (o : IsAmong n (xs ++ ys)). ⊎_elim (λ (p : IsAmong n xs). inl (inr p)) (λ (p : IsAmong n ys). inr p) (among_append n xs ys o)) m

  pub among_left : (n : ℕ) (xs ys : List (Ended M)) → IsAmong n xs → IsAmong n (xs ++ ys)
  among_left n [] ys m = absurd m
  among_left n (x ∷ xs) ys m = ⊎_elim (λ (e : x.number ≡ n). inl e) (λ (o : IsAmong n xs). inr (among_left n xs ys o)) m

  pub among_right : (n : ℕ) (xs ys : List (Ended M)) → IsAmong n ys → IsAmong n (xs ++ ys)
  among_right n [] ys m = m
  among_right n (x ∷ xs) ys m = inr (among_right n xs ys m)

  pub once_append : (xs ys : List (Ended M)) → NoTwice xs → NoTwice ys → ((n : ℕ) → IsAmong n xs → IsAmong n ys → ⊥) → NoTwice (xs ++ ys)
  once_append [] ys p q apart = q
  once_append (x ∷ xs) ys p q apart = (λ m. ⊎_elim (λ (o : IsAmong x.number xs). p.0 o) (λ (o : IsAmong x.number ys). apart x.number (inl refl) o) (among_append x.number xs ys m), once_append xs ys p.1 q (λ n a b. apart n (inr a) b))
