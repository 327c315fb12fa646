-- The ask that is next after some answers is at one place of a plan.
use Rattle.std.proofs.Common.{◌≡◌, ℕ, zero, suc, ◌+◌, ◌-◌, ◌<◌, ◌≤◌, List, [], ◌∷◌, ◌++◌, Bool, true, false, not, Option, None, Some, if◌then◌else◌, length, drop, take, map, slice_get, refl, sym, ap, ◌∙◌, nat_lt, arith}
use Rattle.std.specs.List.{position_or_len}
use Rattle.std.proofs.Math.Seq.{drop-append-add}
use Rattle.std.proofs.Math.ListN.{drop_of_length-le}
use Rattle.std.proofs.lemmas.List.{length-append, length-take, length-map}
use Rattle.std.proofs.lemmas.Option.{slice_get-map, slice_get_within}
use Rattle.std.proofs.lemmas.Bool.Decides.{nat_tests}
use Rattle.domain_spec.specs.Types.{Answer, Ask}
use Rattle.domain_spec.specs.declared.planned.PlannedAsk.{PlannedAsk}
use Rattle.domain_spec.specs.Asks.{asks_left, course_at, first_bad, first_bad_at, is_ok_answer, is_undone, undo_at}
use Rattle.core_rules.specs.declared.course.Place.TheVariants as place
use Rattle.core_rules.specs.declared.next.Next.TheVariants as next
use Rattle.core_rules.specs.Next.{next_if, next_of}
use Rattle.core_rules.specs.Place.{next_at, place_after, place_behind, place_by, undo_step_of}

-- the first that is left of a list is the one at that place
next_dropped : (n : ℕ) (xs : List Ask) → next_of (drop n xs) ≡ next_if (slice_get xs n)
next_dropped zero [] = refl
next_dropped zero (x ∷ xs) = refl
next_dropped (suc n) [] = refl
next_dropped (suc n) (x ∷ xs) = next_dropped n xs

below_by : (b : Bool) (n k most : ℕ) → nat_lt n most ≡ b → (if b then Some n else None) ≡ Some k → k < most
below_by true n k most e s = grind (arith, nat_tests)
below_by false n k most e s = grind (arith, nat_tests)

-- the place of the first answer that is not Ok is one of the answers'
pub bad_place_below : (answers : List Answer) (k : ℕ) → first_bad_at answers ≡ Some k → k < length answers
bad_place_below answers k e =
    below_by (nat_lt (position_or_len (λ a. not (is_ok_answer a)) answers) (length answers)) _ k (length answers) refl e

-- the asks of the plan up to this place
abbrev asks_to : List PlannedAsk → ℕ → List Ask
asks_to plan k = map (λ p. p.ask) (take (k + 1) plan)

none_left : (xs : List Ask) (n : ℕ) → length xs ≤ n → next_of (drop n (xs ++ [])) ≡ next.Finish
none_left xs n le = let e : length (xs ++ []) ≤ n = simp length-append (omega arith) in ap next_of (drop_of_length-le (xs ++ []) e)

asks_to_le : (plan : List PlannedAsk) (k n : ℕ) → k < n → length (asks_to plan k) ≤ n
asks_to_le plan k n lt = simp (length-map, length-take) (omega arith)

asks_to_len : (plan : List PlannedAsk) (k : ℕ) → k < length plan → length (asks_to plan k) ≡ k + 1
asks_to_len plan k lt = simp (length-map, length-take) (omega arith)

no_undo :
    (plan : List PlannedAsk) (n k : ℕ) (b : Bool) → slice_get plan k ≡ None → k < n
    → next_of (drop n (asks_to plan k ++ [])) ≡ next_at plan (if b then place.Undo k (n - (k + 1)) else place.Through)
no_undo plan n k true e lt = none_left (asks_to plan k) n (asks_to_le plan k n lt) ∙ sym (ap (λ o. next_if (undo_step_of o (n - (k + 1)))) e)
no_undo plan n k false e lt = none_left (asks_to plan k) n (asks_to_le plan k n lt)

undone :
    (plan : List PlannedAsk) (n k : ℕ) (planned : PlannedAsk) (b : Bool) → slice_get plan k ≡ Some planned → k < n
    → next_of (drop n (asks_to plan k ++ (if b then planned.undo else []))) ≡ next_at plan (if b then place.Undo k (n - (k + 1)) else place.Through)
undone plan n k planned true e lt =
    let within : k < length plan = slice_get_within plan k planned e in
    let len : length (asks_to plan k) ≡ k + 1 = asks_to_len plan k within in
    let split : n ≡ length (asks_to plan k) + (n - (k + 1)) = omega arith in
    ap (λ m. next_of (drop m (asks_to plan k ++ planned.undo))) split
    ∙ (ap next_of (drop-append-add (asks_to plan k) planned.undo (n - (k + 1)))
    ∙ (next_dropped (n - (k + 1)) planned.undo ∙ sym (ap (λ o. next_if (undo_step_of o (n - (k + 1)))) e)))
undone plan n k planned false e lt = none_left (asks_to plan k) n (asks_to_le plan k n lt)

behind :
    (plan : List PlannedAsk) (n k : ℕ) (p : Option PlannedAsk) (bad : Option Answer) → slice_get plan k ≡ p → k < n
    → next_of (drop n (asks_to plan k ++ undo_at p bad)) ≡ next_at plan (place_behind n k bad)
behind plan n k None None e lt = none_left (asks_to plan k) n (asks_to_le plan k n lt)
behind plan n k (Some planned) None e lt = none_left (asks_to plan k) n (asks_to_le plan k n lt)
behind plan n k None (Some bad) e lt = no_undo plan n k (is_undone bad) e lt
behind plan n k (Some planned) (Some bad) e lt = undone plan n k planned (is_undone bad) e lt

by_place :
    (plan : List PlannedAsk) (answers : List Answer) (o : Option ℕ) → first_bad_at answers ≡ o
    → next_of (drop (length answers) (course_at plan answers o)) ≡ next_at plan (place_by answers o)
by_place plan answers None e =
    next_dropped (length answers) (map (λ p. p.ask) plan) ∙ ap next_if (slice_get-map (λ p. p.ask) plan (length answers))
by_place plan answers (Some k) e =
    behind plan (length answers) k (slice_get plan k) (first_bad answers) refl (bad_place_below answers k e)

pub next_is_at : (plan : List PlannedAsk) (answers : List Answer) → next_of (asks_left plan answers) ≡ next_at plan (place_after answers)
unfolding place_after
next_is_at plan answers = by_place plan answers (first_bad_at answers) refl
