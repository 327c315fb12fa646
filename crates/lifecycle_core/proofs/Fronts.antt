-- What is at a place of two lists, one after the other, whose first has one ask or none.
use Rattle.std.proofs.Common.{◌≡◌, ℕ, zero, suc, ◌-◌, ◌<◌, List, [], ◌∷◌, ◌++◌, Option, None, Some, length, is_some, true, slice_get, refl, ap, arith}
use Rattle.domain_spec.specs.Types.{Ask}
use Rattle.core_rules.specs.Next.{at_most}

-- after none, the second list begins at once
pub behind_none : (front back : List Ask) (n : ℕ) → length front ≡ 0 → slice_get (front ++ back) n ≡ slice_get back n
behind_none [] back n e = refl
behind_none (a ∷ front) back n e = absurd (omega arith)

-- after one, the second list begins one place on
pub behind_one : (front back : List Ask) (n : ℕ) → length front ≡ 1 → 0 < n → slice_get (front ++ back) n ≡ slice_get back (n - 1)
behind_one [] back n e lt = absurd (omega arith)
behind_one (a ∷ []) back zero e lt = absurd (omega arith)
behind_one (a ∷ []) back (suc n) e lt = let same : n ≡ suc n - 1 = omega arith in ap (slice_get back) same
behind_one (a ∷ b ∷ front) back n e lt = absurd (omega arith)

-- the one is at the first place
pub is_first : (one : Option Ask) (back : List Ask) → length (at_most one) ≡ 1 → slice_get (at_most one ++ back) 0 ≡ one
is_first None back e = absurd (omega arith)
is_first (Some a) back e = refl

-- where there is one, something is at the first place
pub has_first : (front back : List Ask) → length front ≡ 1 → is_some (slice_get (front ++ back) 0) ≡ true
has_first [] back e = absurd (omega arith)
has_first (a ∷ front) back e = refl
