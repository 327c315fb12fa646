-- What an index finds after a change.
use Rattle.std.proofs.Common.{◌≡◌, ℕ, ◌<◌, Bool, cond, List, ◌∷◌, drop, get_or, bytes_eq, nat_eq, Option, None, zero, suc, refl, sym, ap, ◌∙◌, arith}
use Rattle.std.specs.HashMap.{HashMap, get, IsEmpty, IsUnchanged, Updates}
use Rattle.std.specs.Cmp.Lexicographic.{bytes_decides}
use Rattle.std.specs.Int.{w64, to_be_bytes}
use Rattle.std.specs.Map.{update, lookup}
use Rattle.std.proofs.lemmas.Bool.Decides.{Decides-eqb, same_from_decides}
use Rattle.std.proofs.lemmas.Nat.{be_bytes_8}
use Rattle.net_core.specs.Index.{IsMac, number_of}

-- eight bytes of which the first two are 0
small_wide : (bytes : List ℕ) → ((i : ℕ) → get_or bytes i 0 < 256) → (i : ℕ) → get_or (0 ∷ 0 ∷ bytes) i 0 < 256
small_wide bytes small zero = omega arith
small_wide bytes small (suc zero) = omega arith
small_wide bytes small (suc (suc i)) = small i

spelled : (bytes : List ℕ) → IsMac bytes → to_be_bytes w64 (number_of bytes) ≡ 0 ∷ 0 ∷ bytes
spelled bytes is = be_bytes_8 (0 ∷ 0 ∷ bytes) (number_of bytes) (omega (arith, is.six)) (small_wide bytes is.small) refl

-- interfaces with the same number are the same
same_bytes : (xs ys : List ℕ) → IsMac xs → IsMac ys → number_of xs ≡ number_of ys → xs ≡ ys
same_bytes xs ys one other is = ap (drop 2) (sym (spelled xs one) ∙ (ap (to_be_bytes w64) is ∙ spelled ys other))

number_test : (xs ys : List ℕ) → IsMac xs → IsMac ys → nat_eq (number_of xs) (number_of ys) ≡ bytes_eq xs ys
number_test xs ys one other = same_from_decides (nat_eq (number_of xs) (number_of ys)) (bytes_eq xs ys) (
  λ t. same_bytes xs ys one other ((Decides-eqb (number_of xs) (number_of ys)).0 t),
  λ e. (Decides-eqb (number_of xs) (number_of ys)).1 (ap number_of e),
)
    (bytes_decides xs ys)

module _ {X S : Type 0} where
  pub updated_at : (bytes : List ℕ) (m n : HashMap ℕ X S) (w : Option X) → IsMac bytes → Updates nat_eq m n (number_of bytes) w → (other : List ℕ) → IsMac other → get nat_eq n (number_of other) ≡ update bytes_eq (λ bs. get nat_eq m (number_of bs)) bytes w other
  updated_at bytes m n w is updates other is_other = updates.0 (number_of other) ∙ ap (λ (b : Bool). cond b w (get nat_eq m (number_of other))) (number_test bytes other is is_other)

  pub empty_at : (m : HashMap ℕ X S) → IsEmpty m → (key : ℕ) → get nat_eq m key ≡ None
  empty_at m empty key = ap (lookup (nat_eq key)) empty

  -- entries that stay are found as before
  pub same_at : (m n : HashMap ℕ X S) → IsUnchanged m n → (key : ℕ) → get nat_eq n key ≡ get nat_eq m key
  same_at m n same key = ap (lookup (nat_eq key)) same
