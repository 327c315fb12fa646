-- A caller that looked in vain is among those who wait.
use Rattle.std.proofs.Common.{◌≡◌, ◌≤◌, ℕ, suc, ◌==◌, ◌&&◌, List, [], ◌∷◌, find, Bool, true, false, Some, option_map, if◌then◌else◌, refl, sym, ap, arith}
use Rattle.std.specs.Prelude.{unwrap_or}
use Rattle.domain_spec.specs.Types.{Who}
use Rattle.domain_spec.specs.CanTake.{HasLooked}
use Rattle.domain_spec.specs.Cell.{Waiter}
use Rattle.domain_spec.specs.Kept.{looks_of}
use Rattle.domain_spec.specs.Open.{is_same_who}
use Rattle.domain_core.proofs.OfShares.{same_by}

and_parts : (a b : Bool) → (a && b) ≡ true → (a ≡ true) × (b ≡ true)
and_parts true b e = (refl, e)
and_parts false b e = cc

who_is : (a b : Who) → a.session ≡ b.session → a.lane ≡ b.lane → a.count ≡ b.count → a ≡ b
who_is a b e f g = λ i. record { session = e i; lane = f i; count = g i }

same_who : (a b : Who) → is_same_who a b ≡ true → a ≡ b
same_who a b e =
    let h = and_parts ((a.session == b.session) && (a.lane == b.lane)) (a.count == b.count) e in
    let k = and_parts (a.session == b.session) (a.lane == b.lane) h.0 in
    who_is a b (same_by a.session b.session (a.session == b.session) refl k.0) (same_by a.lane b.lane (a.lane == b.lane) refl k.1) (same_by a.count b.count (a.count == b.count) refl h.1)

waiter_is : (w : Waiter) (who : Who) (n : ℕ) → w.who ≡ who → n ≡ w.looks → w ≡ record { who = who; looks = n }
waiter_is w who n e f = λ i. record { who = e i; looks = sym f i }

abbrev looks_if : Bool → Waiter → List Waiter → Who → ℕ
looks_if b w ws who = unwrap_or (option_map (λ (x : Waiter). x.looks) (if b then Some w else find (λ (x : Waiter). is_same_who x.who who) ws)) 0

looked_by : (b : Bool) (w : Waiter) (ws : List Waiter) (who : Who) (n : ℕ) → is_same_who w.who who ≡ b → n ≡ looks_if b w ws who → (n ≡ looks_of ws who → HasLooked ws who n) → HasLooked (w ∷ ws) who n
looked_by true w ws who n same e rest = (0, ap (λ (x : Waiter). Some x) (waiter_is w who n (same_who w.who who same) e))
looked_by false w ws who n same e rest = let (place, there) = rest e in (suc place, there)

pub has_looked : (ws : List Waiter) (who : Who) (n : ℕ) → n ≡ looks_of ws who → 1 ≤ n → HasLooked ws who n
has_looked [] who n e some = absurd (omega (arith, e, some))
has_looked (w ∷ ws) who n e some = looked_by (is_same_who w.who who) w ws who n refl e (λ f. has_looked ws who n f some)
