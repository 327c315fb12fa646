-- Cuts that are marked one after the other.
use Rattle.std.proofs.Common.{◌≡◌, ℕ, ◌+◌, ◌-◌, ◌≤◌, List, [], ◌∷◌, map, take, drop, length, get_or, refl, sym, ap, ◌∙◌, subst, arith}
use Rattle.domain_spec.specs.declared.standing.Standing.{Standing}
use Rattle.domain_spec.specs.Legal.{IsLegal}
use Rattle.core_flight.specs.Ledger.{Chaptered, standing_in, with_marks}
use Rattle.event_queue.specs.declared.cut.Cut.{Cut}
use Rattle.event_queue.specs.Listening.{cut_mark}
use Rattle.core_log.proofs.Held.{in_more, more_more}

-- the first of these
abbrev pub first_cut : List Cut → Cut
first_cut cuts = get_or cuts 0 (record { client = 0; total = 0; taken = 0 })

take_all : (cuts : List Cut) → take (length cuts) cuts ≡ cuts
take_all [] = refl
take_all (x ∷ cuts) = ap (λ (xs : List Cut). x ∷ xs) (take_all cuts)

less_one : (n : ℕ) → (n + 1) - 1 ≡ n
less_one n = omega arith

rest_is : (x : Cut) (cuts : List Cut) → take (length (x ∷ cuts) - 1) (drop 1 (x ∷ cuts)) ≡ cuts
rest_is x cuts = let e : length (x ∷ cuts) - 1 ≡ length cuts = omega arith in ap (λ (n : ℕ). take n cuts) e ∙ take_all cuts

pub rest_fits : (cuts : List Cut) (before after : ℕ) → 1 ≤ length cuts → length cuts ≤ before → after + 1 ≡ before → length (take (length cuts - 1) (drop 1 cuts)) ≤ after
rest_fits [] before after some le e = absurd (omega (arith, some))
rest_fits (x ∷ cuts) before after some le e = let same = ap length (rest_is x cuts) in omega (arith, same, le, e)

pub rest_legal : (h g : Chaptered) (cuts : List Cut) → 1 ≤ length cuts → g ≡ with_marks h (cut_mark (first_cut cuts) ∷ []) → IsLegal (standing_in h) (map cut_mark cuts)
    → IsLegal (standing_in g) (map cut_mark (take (length cuts - 1) (drop 1 cuts)))
rest_legal h g [] some e legal = absurd (omega (arith, some))
rest_legal h g (x ∷ cuts) some e legal =
    subst (λ (xs : List Cut). IsLegal (standing_in g) (map cut_mark xs)) (sym (rest_is x cuts))
    (subst (λ (s : Standing). IsLegal s (map cut_mark cuts)) (sym (ap standing_in e ∙ in_more h (cut_mark x ∷ []))) legal.1)

pub all_marked : (h g k : Chaptered) (cuts : List Cut) → 1 ≤ length cuts → g ≡ with_marks h (cut_mark (first_cut cuts) ∷ []) → k ≡ with_marks g (map cut_mark (take (length cuts - 1) (drop 1 cuts)))
    → k ≡ with_marks h (map cut_mark cuts)
all_marked h g k [] some e f = absurd (omega (arith, some))
all_marked h g k (x ∷ cuts) some e f =
    f ∙ ap (λ (xs : List Cut). with_marks g (map cut_mark xs)) (rest_is x cuts) ∙ ap (λ (y : Chaptered). with_marks y (map cut_mark cuts)) e ∙ more_more h (cut_mark x ∷ []) (map cut_mark cuts)

pub all_spare : (cuts : List Cut) (before mid after : ℕ) → 1 ≤ length cuts → mid + 1 ≡ before → after + length (take (length cuts - 1) (drop 1 cuts)) ≡ mid → after + length cuts ≡ before
all_spare [] before mid after some e f = absurd (omega (arith, some))
all_spare (x ∷ cuts) before mid after some e f = let same = ap length (rest_is x cuts) in omega (arith, same, e, f)
