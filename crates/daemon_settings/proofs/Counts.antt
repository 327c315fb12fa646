-- The number of sessions is in its range, whatever the lines.
use Rattle.std.proofs.Common.{◌≡◌, ◌+◌, ◌<◌, ◌≤◌, ℕ, zero, suc, Bool, true, false, List, Option, None, Some, arith, cond, decimal, drop, find, length, lit≤, refl, unwrap_or, if◌then◌else◌}
use Rattle.std.specs.List.{range_with_len, starts_with}
use Rattle.std.specs.Prelude.{nat_eq}
use Rattle.std.specs.Str.{bytes_eq}
use Rattle.std.proofs.lemmas.List.Folds.{fold_along}
use Rattle.daemon_settings.specs.declared.settings.TheConstants.{DEFAULT_SESSIONS, MOST_SESSIONS}
use Rattle.daemon_settings.specs.Lines.{IsCount, key, number_in, sessions_in}
use Rattle.daemon_settings.specs.Settings.{last_sessions}

next_within : (a n k : ℕ) (b : Bool) (later : Option ℕ) → cond b (Some a) later ≡ Some k → (later ≡ Some k → (a + 1 ≤ k) × (k < a + 1 + n)) → (a ≤ k) × (k < a + suc n)
next_within a n k true later is within = let first : a ≡ k = cc in (omega (arith, first), omega (arith, first))
next_within a n k false later is within = let more = within is in (omega (arith, more.0), omega (arith, more.1))

-- what is found among numbers one after another is one of them
found_within : (test : ℕ → Bool) (a n k : ℕ) → find test (range_with_len a n) ≡ Some k → (a ≤ k) × (k < a + n)
found_within test a zero k is = absurd cc
found_within test a (suc n) k is = next_within a n k (test a) (find test (range_with_len (a + 1) n)) is (found_within test (a + 1) n k)

is_count : (digits : List ℕ) (k : ℕ) → number_in digits ≡ Some k → IsCount k
unfolding number_in
is_count digits k is = let within = found_within (λ n. bytes_eq (decimal n) digits) 1 MOST_SESSIONS k is in (within.0, omega (arith, within.1))

line_gives_count : (line : List ℕ) (k : ℕ) → sessions_in line ≡ Some k → IsCount k
unfolding sessions_in
line_gives_count line k = by_key (starts_with nat_eq line key)
  where
    by_key : (b : Bool) → (if b then number_in (drop (length key) line) else None) ≡ Some k → IsCount k
    by_key true is = is_count (drop (length key) line) k is
    by_key false is = absurd cc

count_or : (n : ℕ) (given : Option ℕ) → IsCount n → ((k : ℕ) → given ≡ Some k → IsCount k) → IsCount (unwrap_or given n)
count_or n None is each = is
count_or n (Some k) is each = each k refl

pub last_is_count : (lines : List (List ℕ)) → IsCount (last_sessions lines)
last_is_count lines = fold_along
    (λ n line. unwrap_or (sessions_in line) n) (λ (u : Unit {0}) line. u) (λ n u. IsCount n)
    (λ n u line is. count_or n (sessions_in line) is (line_gives_count line))
    DEFAULT_SESSIONS tt lines (lit≤ tt, lit≤ tt)
