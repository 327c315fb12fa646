-- A mask gives its prefix.
use Rattle.std.proofs.Common.{◌≡◌, ℕ, zero, suc, ◌+◌, ◌-◌, ◌^◌, ◌<◌, ◌≤◌, Bool, true, false, Option, Some, None, refl, ap, subst, ⊎_elim, eqb-true, arith}
use Rattle.std.specs.Prelude.{◌==◌, nat_le}
use Rattle.std.specs.List.{list_all, range_with_len}
use Rattle.std.proofs.lemmas.Bool.{cases_lt}
use Rattle.std.proofs.lemmas.Bool.Decides.{nat_tests}
use Rattle.std.proofs.Math.Pow.{pow_mono}
use Rattle.text_laws.proofs.Parts.{both_of}
use Rattle.network_xml.specs.Addresses.{mask_of, ones_of, size_of}

pub is_le : (a b : ℕ) → a ≤ b → nat_le a b ≡ true
is_le a b h = grind (arith, nat_tests)

-- what was tested of so many numbers, from one on
all_below : (test : ℕ → Bool) (k a : ℕ) → list_all test (range_with_len a k) ≡ true → (n : ℕ) → a ≤ n → n < a + k → test n ≡ true
all_below test zero a e n low high = absurd (omega (arith, low, high))
all_below test (suc k) a e n low high =
    let parts = both_of (test a) (list_all test (range_with_len (a + 1) k)) e in
    ⊎_elim
    (λ (lt : a < n). all_below test k (a + 1) parts.1 n (omega (arith, lt)) (omega (arith, high)))
    (λ (ge : n ≤ a). let same : a ≡ n = omega (arith, low, ge) in subst (λ (m : ℕ). test m ≡ true) same parts.0)
    (cases_lt a n)

is_just : ℕ → Option ℕ → Bool
is_just n None = false
is_just n (Some m) = m == n

just : (n : ℕ) (o : Option ℕ) → is_just n o ≡ true → o ≡ Some n
unfolding is_just
just n None e = absurd cc
just n (Some m) e = ap Some (eqb-true m n e)

pub ones_back : (n : ℕ) → n < 33 → ones_of (mask_of n) ≡ Some n
unfolding ones_of is_just
ones_back n small = just n (ones_of (mask_of n)) (all_below (λ k. is_just k (ones_of (mask_of k))) 33 0 refl n (omega arith) (omega (arith, small)))

size_some : (n : ℕ) → 1 ≤ size_of n
size_some n = pow_mono {i = 0} {j = 32 - n} (omega arith)

pub mask_small : (n : ℕ) → mask_of n < 2 ^ 32
mask_small n = omega (arith, size_some n)
