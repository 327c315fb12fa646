-- What is under a name once something was put there, and after one operation more.
use Rattle.std.proofs.Common.{◌≡◌, ◌⊎◌, inl, inr, ◌++◌, Bool, true, false, cond, Decides, List, [], ◌∷◌, ℕ, None, refl, bytes_eq}
use Rattle.std.proofs.lemmas.Slice.Eq.{bytes_eq-Decides}
use Rattle.store_spec.specs.declared.operation.Operation.{Operation}
use Rattle.store_spec.specs.Directory.{Files, put, operated, files_from, files_after}

pub same_or_not : (one other : List ℕ) → (one ≡ other) ⊎ (one ≡ other → ⊥)
same_or_not one other = by (bytes_eq one other) (bytes_eq-Decides one other)
  where
    by : (b : Bool) → Decides b (one ≡ other) → (one ≡ other) ⊎ (one ≡ other → ⊥)
    by true d = inl (d.0 refl)
    by false d = inr (λ same. let no : false ≡ true = d.1 same in cc)

pub bytes_eq_same : (one other : List ℕ) → one ≡ other → bytes_eq one other ≡ true
bytes_eq_same one other same = (bytes_eq-Decides one other).1 same

pub bytes_eq_not : (one other : List ℕ) → (one ≡ other → ⊥) → bytes_eq one other ≡ false
bytes_eq_not one other differ = by (bytes_eq one other) (bytes_eq-Decides one other)
  where
    by : (b : Bool) → Decides b (one ≡ other) → b ≡ false
    by true d = absurd (differ (d.0 refl))
    by false d = refl

put_by : {A : Type 0} (b : Bool) (this other : A) → b ≡ true → cond b this other ≡ this
put_by true this other is = refl
put_by false this other is = cc

put_by_not : {A : Type 0} (b : Bool) (this other : A) → b ≡ false → cond b this other ≡ other
put_by_not true this other is = cc
put_by_not false this other is = refl

pub put_here : {A : Type 0} (name n : List ℕ) (this : A) (rest : List ℕ → A) → n ≡ name → put name this rest n ≡ this
put_here name n this rest same = put_by (bytes_eq n name) this (rest n) (bytes_eq_same n name same)

pub put_else : {A : Type 0} (name n : List ℕ) (this : A) (rest : List ℕ → A) → (n ≡ name → ⊥) → put name this rest n ≡ rest n
put_else name n this rest differ = put_by_not (bytes_eq n name) this (rest n) (bytes_eq_not n name differ)

from_more : (files : Files) (os : List Operation) (o : Operation) → files_from files (os ++ o ∷ []) ≡ operated o (files_from files os)
from_more files [] o = refl
from_more files (p ∷ os) o = from_more (operated p files) os o

-- the files after one operation more
pub files_more : (os : List Operation) (o : Operation) → files_after (os ++ o ∷ []) ≡ operated o (files_after os)
unfolding files_after
files_more os o = from_more (λ n. None) os o
