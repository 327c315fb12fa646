-- Where the answers that are tried are in a plan.
use Rattle.std.proofs.Common.{◌≡◌, ℕ, zero, suc, ◌+◌, ◌-◌, ◌<◌, List, [], ◌∷◌, ◌++◌, Bool, true, false, not, Option, None, Some, if◌then◌else◌, length, refl, sym, ap, ◌∙◌, subst, nat_lt, arith, slice_get, drop, take, option_map, append-nil, append_assoc}
use Rattle.std.specs.List.{position_or_len}
use Rattle.std.proofs.lemmas.Bool.Decides.{nat_tests}
use Rattle.std.proofs.Math.Seq.{drop-nil, take-nil}
use Rattle.std.proofs.lemmas.List.{length-append}
use Rattle.domain_spec.specs.Types.{Answer, Ask, Call, State}
use Rattle.domain_spec.specs.Types.answer
use Rattle.domain_spec.specs.declared.planned.PlannedAsk.{PlannedAsk}
use Rattle.domain_spec.specs.Asks.{asks_left, first_bad, first_bad_at, is_ok_answer, is_undone, plain}
use Rattle.domain_spec.specs.Sequential.{still_asked}
use Rattle.core_rules.specs.Cores.{core_of_call}
use Rattle.core_rules.specs.declared.cores.Core.TheVariants as core
use Rattle.core_rules.specs.declared.course.Place.{Place}
use Rattle.core_rules.specs.declared.course.Place.TheVariants as place
use Rattle.core_rules.specs.declared.next.Next.{Next}
use Rattle.core_rules.specs.declared.next.Next.TheVariants as next
use Rattle.core_rules.specs.Next.{at_most, next_if, next_of}
use Rattle.core_rules.specs.Place.{next_at, place_after, place_behind, place_by, planned_at, undo_step_of}
use Rattle.core_rules.proofs.NextAsk.{next_is_at}
use Rattle.core_mark_laws.specs.Tidy.{planned}
use Rattle.core_plan.proofs.Courses.{bad_behind, bad_first, first_behind, first_is, further}
use Rattle.core_plan.proofs.Planning.{one_planned, still_planned}
use Rattle.core_plan.specs.Probing.{undo_behind, undo_in}

-- what the driver says is next is what the plan has at the place of these answers
pub next_planned : (s : State) (c : Call) (boot : Option ℕ) (answers : List Answer) → next_of (still_asked s c boot answers) ≡ next_at (planned s c boot) (place_after answers)
next_planned s c boot answers = ap next_of (sym (still_planned s c boot answers)) ∙ next_is_at (planned s c boot) answers

-- the place of the answers, found one answer after the other

abbrev place_from : ℕ → List Answer → Place
place_from n [] = place.Plan n
place_from n (a ∷ answers) = if is_ok_answer a then place_from (n + 1) answers else if is_undone a then place.Undo n (length answers) else place.Through

abbrev further_on : ℕ → Place → Place
further_on n (place.Plan m) = place.Plan (n + m)
further_on n (place.Undo of step) = place.Undo (n + of) step
further_on n place.Through = place.Through

plan_is : (n m : ℕ) → n ≡ m → place.Plan n ≡ place.Plan m
plan_is n m e = ap (λ (k : ℕ). place.Plan k) e

undo_is : (n m j k : ℕ) → n ≡ m → j ≡ k → place.Undo n j ≡ place.Undo m k
undo_is n m j k e f = ap (λ (x : ℕ). place.Undo x j) e ∙ ap (λ (x : ℕ). place.Undo m x) f

behind_if : (b : Bool) (n len k : ℕ) → further_on (n + 1) (if b then place.Undo k (len - (k + 1)) else place.Through) ≡ further_on n (if b then place.Undo (1 + k) (suc len - ((1 + k) + 1)) else place.Through)
behind_if true n len k =
    let e : (n + 1) + k ≡ n + (1 + k) = omega arith in
    let f : len - (k + 1) ≡ suc len - ((1 + k) + 1) = omega arith in
    undo_is _ _ _ _ e f
behind_if false n len k = refl

behind_by : (n len k : ℕ) (bad : Option Answer) → further_on (n + 1) (place_behind len k bad) ≡ further_on n (place_behind (suc len) (1 + k) bad)
behind_by n len k None = refl
behind_by n len k (Some bad) = behind_if (is_undone bad) n len k

shifted : (n : ℕ) (a : Answer) (answers : List Answer) (o : Option ℕ) → first_bad (a ∷ answers) ≡ first_bad answers
    → further_on (n + 1) (place_by answers o) ≡ further_on n (place_by (a ∷ answers) (further o))
shifted n a answers None e = let f : (n + 1) + length answers ≡ n + suc (length answers) = omega arith in plan_is _ _ f
shifted n a answers (Some k) e =
    behind_by n (length answers) k (first_bad answers)
    ∙ sym (ap (λ (bad : Option Answer). further_on n (place_behind (suc (length answers)) (1 + k) bad)) e)

at_first : (b : Bool) (n len : ℕ) → (if b then place.Undo n len else place.Through) ≡ further_on n (if b then place.Undo 0 (suc len - (0 + 1)) else place.Through)
at_first true n len =
    let e : n ≡ n + 0 = omega arith in
    let f : len ≡ suc len - (0 + 1) = omega arith in
    undo_is _ _ _ _ e f
at_first false n len = refl

place_step : (b : Bool) (n : ℕ) (a : Answer) (answers : List Answer) → is_ok_answer a ≡ b → place_from (n + 1) answers ≡ further_on (n + 1) (place_by answers (first_bad_at answers))
    → (if b then place_from (n + 1) answers else if is_undone a then place.Undo n (length answers) else place.Through) ≡ further_on n (place_by (a ∷ answers) (first_bad_at (a ∷ answers)))
place_step true n a answers is so =
    so ∙ shifted n a answers (first_bad_at answers) (first_behind a answers is)
    ∙ sym (ap (λ (o : Option ℕ). further_on n (place_by (a ∷ answers) o)) (bad_behind a answers is))
place_step false n a answers is so =
    at_first (is_undone a) n (length answers)
    ∙ sym (ap (λ (o : Option ℕ). further_on n (place_by (a ∷ answers) o)) (bad_first a answers is)
    ∙ ap (λ (bad : Option Answer). further_on n (place_behind (suc (length answers)) 0 bad)) (first_is a answers is))

place_found : (n : ℕ) (answers : List Answer) → place_from n answers ≡ further_on n (place_by answers (first_bad_at answers))
place_found n [] = let e : n ≡ n + 0 = omega arith in plan_is _ _ e
place_found n (a ∷ answers) = place_step (is_ok_answer a) n a answers refl (place_found (n + 1) answers)

none_on : (p : Place) → further_on 0 p ≡ p
none_on (place.Plan m) = let e : 0 + m ≡ m = omega arith in plan_is _ _ e
none_on (place.Undo of step) = let e : 0 + of ≡ of = omega arith in undo_is _ _ _ _ e refl
none_on place.Through = refl

found : (answers : List Answer) → place_after answers ≡ place_from 0 answers
unfolding place_after
found answers = sym (place_found 0 answers ∙ none_on (place_by answers (first_bad_at answers)))

-- one more answer

more_by : (b undone : Bool) (n m : ℕ) (a : Answer) (answers : List Answer) (x : Answer) (k : ℕ)
    → (place_from (n + 1) answers ≡ place.Plan m → place_from (n + 1) (answers ++ x ∷ []) ≡ place.Plan (m + 1))
    → (if b then place_from (n + 1) answers else if undone then place.Undo n (length answers) else place.Through) ≡ place.Plan m
    → (if b then place_from (n + 1) (answers ++ x ∷ []) else if undone then place.Undo n k else place.Through) ≡ place.Plan (m + 1)
more_by true undone n m a answers x k so e = so e
more_by false true n m a answers x k so e = cc
more_by false false n m a answers x k so e = cc

from_more : (n m : ℕ) (answers : List Answer) (x : Answer) → is_ok_answer x ≡ true → place_from n answers ≡ place.Plan m → place_from n (answers ++ x ∷ []) ≡ place.Plan (m + 1)
from_more n m [] x ok e =
    let same : n ≡ m = cc in
    ap (λ (b : Bool). if b then place.Plan (n + 1) else if is_undone x then place.Undo n 0 else place.Through) ok ∙ plan_is _ _ (ap (λ (i : ℕ). i + 1) same)
from_more n m (a ∷ answers) x ok e =
    more_by (is_ok_answer a) (is_undone a) n m a answers x (length (answers ++ x ∷ [])) (from_more (n + 1) m answers x ok) e

refused_by : (b undone : Bool) (n m : ℕ) (a : Answer) (answers : List Answer) (x : Answer) (k : ℕ)
    → (place_from (n + 1) answers ≡ place.Plan m → place_from (n + 1) (answers ++ x ∷ []) ≡ place.Undo m 0)
    → (if b then place_from (n + 1) answers else if undone then place.Undo n (length answers) else place.Through) ≡ place.Plan m
    → (if b then place_from (n + 1) (answers ++ x ∷ []) else if undone then place.Undo n k else place.Through) ≡ place.Undo m 0
refused_by true undone n m a answers x k so e = so e
refused_by false true n m a answers x k so e = cc
refused_by false false n m a answers x k so e = cc

from_refused : (n m : ℕ) (answers : List Answer) → place_from n answers ≡ place.Plan m → place_from n (answers ++ answer.NoMemory ∷ []) ≡ place.Undo m 0
from_refused n m [] e = let same : n ≡ m = cc in undo_is _ _ _ _ same refl
from_refused n m (a ∷ answers) e =
    refused_by (is_ok_answer a) (is_undone a) n m a answers answer.NoMemory (length (answers ++ answer.NoMemory ∷ [])) (from_refused (n + 1) m answers) e

undone_by_one : (b undone : Bool) (n of step : ℕ) (answers : List Answer) (x : Answer)
    → (place_from (n + 1) answers ≡ place.Undo of step → place_from (n + 1) (answers ++ x ∷ []) ≡ place.Undo of (step + 1))
    → (if b then place_from (n + 1) answers else if undone then place.Undo n (length answers) else place.Through) ≡ place.Undo of step
    → (if b then place_from (n + 1) (answers ++ x ∷ []) else if undone then place.Undo n (length (answers ++ x ∷ [])) else place.Through) ≡ place.Undo of (step + 1)
undone_by_one true undone n of step answers x so e = so e
undone_by_one false true n of step answers x so e =
    let same : n ≡ of = cc in
    let count : length answers ≡ step = cc in
    undo_is _ _ _ _ same (length-append answers (x ∷ []) ∙ ap (λ (i : ℕ). i + 1) count)
undone_by_one false false n of step answers x so e = cc

from_undone : (n of step : ℕ) (answers : List Answer) (x : Answer) → place_from n answers ≡ place.Undo of step → place_from n (answers ++ x ∷ []) ≡ place.Undo of (step + 1)
from_undone n of step [] x e = cc
from_undone n of step (a ∷ answers) x e = undone_by_one (is_ok_answer a) (is_undone a) n of step answers x (from_undone (n + 1) of step answers x) e

pub first_place : place_after [] ≡ place.Plan 0
first_place = found []

pub place_more : (answers : List Answer) (n : ℕ) (x : Answer) → is_ok_answer x ≡ true → place_after answers ≡ place.Plan n → place_after (answers ++ x ∷ []) ≡ place.Plan (n + 1)
place_more answers n x ok e = found (answers ++ x ∷ []) ∙ from_more 0 n answers x ok (sym (found answers) ∙ e)

pub place_refused : (answers : List Answer) (n : ℕ) → place_after answers ≡ place.Plan n → place_after (answers ++ answer.NoMemory ∷ []) ≡ place.Undo n 0
place_refused answers n e = found (answers ++ answer.NoMemory ∷ []) ∙ from_refused 0 n answers (sym (found answers) ∙ e)

pub place_undone : (answers : List Answer) (of step : ℕ) (x : Answer) → place_after answers ≡ place.Undo of step → place_after (answers ++ x ∷ []) ≡ place.Undo of (step + 1)
place_undone answers of step x e = found (answers ++ x ∷ []) ∙ from_undone 0 of step answers x (sym (found answers) ∙ e)

-- what is read of a list at a place

get_none : (xs : List Ask) (n : ℕ) → next_if None ≡ next_if (slice_get xs n) → drop n xs ≡ []
get_none [] n e = drop-nil n
get_none (x ∷ xs) zero e = cc
get_none (x ∷ xs) (suc n) e = get_none xs n e

get_some : (xs : List Ask) (n : ℕ) (x : Ask) → next_if (Some x) ≡ next_if (slice_get xs n) → drop n xs ≡ x ∷ drop (n + 1) xs
get_some [] n x e = cc
get_some (y ∷ xs) zero x e = let same : x ≡ y = cc in ap (λ (z : Ask). z ∷ xs) (sym same)
get_some (y ∷ xs) (suc n) x e =
    let f : suc n + 1 ≡ suc (n + 1) = omega arith in
    get_some xs n x e ∙ sym (ap (λ (k : ℕ). x ∷ drop k (y ∷ xs)) f)

get_within : (xs : List Ask) (n : ℕ) (x : Ask) → next_if (Some x) ≡ next_if (slice_get xs n) → n < length xs
get_within [] n x e = cc
get_within (y ∷ xs) zero x e = omega arith
get_within (y ∷ xs) (suc n) x e = let h : n < length xs = get_within xs n x e in omega (arith, h)

-- the steps of what undoes an ask

step_none : (p : Option PlannedAsk) (j : ℕ) → next_if None ≡ next_if (undo_step_of p j) → drop j (undo_in p) ≡ []
step_none None j e = drop-nil j
step_none (Some p) j e = get_none p.undo j e

step_some : (p : Option PlannedAsk) (j : ℕ) (x : Ask) → next_if (Some x) ≡ next_if (undo_step_of p j) → (drop j (undo_in p) ≡ x ∷ drop (j + 1) (undo_in p)) × (j < length (undo_in p))
step_some None j x e = cc
step_some (Some p) j x e = (get_some p.undo j x e, get_within p.undo j x e)

pub undo_over : (plan : List PlannedAsk) (of : ℕ) (undo : List Ask) (p : Place) → p ≡ place.Undo of (length undo) → next_if None ≡ next_at plan p
    → undo ≡ undo ++ drop (length undo) (undo_behind plan of)
undo_over plan of undo p is e =
    sym (ap (λ (xs : List Ask). undo ++ xs) (step_none (slice_get plan of) (length undo) (e ∙ ap (λ (q : Place). next_at plan q) is)) ∙ append-nil undo)

pub undo_more : (plan : List PlannedAsk) (of : ℕ) (undo : List Ask) (x : Ask) (p : Place) → p ≡ place.Undo of (length undo) → next_if (Some x) ≡ next_at plan p
    → ((undo ++ x ∷ []) ++ drop (length (undo ++ x ∷ [])) (undo_behind plan of) ≡ undo ++ drop (length undo) (undo_behind plan of)) × (length undo < length (undo_behind plan of))
undo_more plan of undo x p is e =
    let h = step_some (slice_get plan of) (length undo) x (e ∙ ap (λ (q : Place). next_at plan q) is) in (
      append_assoc undo (x ∷ []) (drop (length (undo ++ x ∷ [])) (undo_behind plan of))
          ∙ ap (λ (n : ℕ). undo ++ x ∷ drop n (undo_behind plan of)) (length-append undo (x ∷ []))
          ∙ sym (ap (λ (xs : List Ask). undo ++ xs) h.0),
      h.1,
    )

pub undo_next : (answers : List Answer) (of : ℕ) (undo : List Ask) (x : Answer) (a : Ask) → place_after answers ≡ place.Undo of (length undo) → place_after (answers ++ x ∷ []) ≡ place.Undo of (length (undo ++ a ∷ []))
undo_next answers of undo x a e = place_undone answers of (length undo) x e ∙ ap (λ (n : ℕ). place.Undo of n) (sym (length-append undo (a ∷ [])))

-- the planned asks

planned_none : (p : Option PlannedAsk) → next_if None ≡ next_if (option_map (λ q. q.ask) p) → None ≡ p
planned_none None e = refl
planned_none (Some q) e = cc

pub none_planned : (plan : List PlannedAsk) (n : ℕ) → next_if None ≡ next_if (planned_at plan n) → None ≡ slice_get plan n
none_planned plan n e = planned_none (slice_get plan n) e

planned_some : (p : Option PlannedAsk) (ask : Ask) (undo : List Ask) → next_if (Some ask) ≡ next_if (option_map (λ q. q.ask) p) → undo ≡ undo_in p → Some (record { ask = ask; undo = undo }) ≡ p
planned_some None ask undo e f = cc
planned_some (Some q) ask undo e f =
    let same : ask ≡ q.ask = cc in
    ap (λ (a : Ask). Some (record { ask = a; undo = undo })) same ∙ ap (λ (u : List Ask). Some (record { ask = q.ask; undo = u })) f

pub some_planned : (plan : List PlannedAsk) (n : ℕ) (ask : Ask) (undo : List Ask) → next_if (Some ask) ≡ next_if (planned_at plan n) → undo ≡ undo_behind plan n
    → Some (record { ask = ask; undo = undo }) ≡ slice_get plan n
some_planned plan n ask undo e f = planned_some (slice_get plan n) ask undo e f

all_taken : (plan : List PlannedAsk) (n : ℕ) → None ≡ slice_get plan n → take n plan ≡ plan
all_taken [] n e = take-nil n
all_taken (p ∷ plan) zero e = cc
all_taken (p ∷ plan) (suc n) e = ap (λ (ps : List PlannedAsk). p ∷ ps) (all_taken plan n e)

one_taken : (plan : List PlannedAsk) (n : ℕ) (p : PlannedAsk) → Some p ≡ slice_get plan n → take n plan ++ p ∷ [] ≡ take (n + 1) plan
one_taken [] n p e = cc
one_taken (q ∷ plan) zero p e = let same : p ≡ q = cc in ap (λ (x : PlannedAsk). x ∷ []) same
one_taken (q ∷ plan) (suc n) p e =
    let f : suc n + 1 ≡ suc (n + 1) = omega arith in
    ap (λ (ps : List PlannedAsk). q ∷ ps) (one_taken plan n p e) ∙ sym (ap (λ (k : ℕ). take k (q ∷ plan)) f)

one_within : (plan : List PlannedAsk) (n : ℕ) (p : PlannedAsk) → Some p ≡ slice_get plan n → n < length plan
one_within [] n p e = cc
one_within (q ∷ plan) zero p e = omega arith
one_within (q ∷ plan) (suc n) p e = let h : n < length plan = one_within plan n p e in omega (arith, h)

pub plan_over : (plan so_far : List PlannedAsk) → so_far ≡ take (length so_far) plan → None ≡ slice_get plan (length so_far) → so_far ≡ plan
plan_over plan so_far is e = is ∙ all_taken plan (length so_far) e

pub plan_more : (plan so_far : List PlannedAsk) (p : PlannedAsk) → so_far ≡ take (length so_far) plan → Some p ≡ slice_get plan (length so_far)
    → (so_far ++ p ∷ [] ≡ take (length (so_far ++ p ∷ [])) plan) × (length so_far < length plan)
plan_more plan so_far p is e = (
  ap (λ (ps : List PlannedAsk). ps ++ p ∷ []) is ∙ one_taken plan (length so_far) p e ∙ ap (λ (n : ℕ). take n plan) (sym (length-append so_far (p ∷ []))),
  one_within plan (length so_far) p e,
)

-- a call that is on no device plans one ask at most
pub one_at_most : (s : State) (c : Call) (boot : Option ℕ) (x : Option Ask) → (core_of_call c ≡ core.Hotplug → ⊥) → next_if x ≡ next_if (planned_at (planned s c boot) 0)
    → plain (at_most x) ≡ planned s c boot
one_at_most s c boot x other e =
    sym (one_planned s c boot x other (next_planned s c boot [] ∙ ap (λ (p : Place). next_at (planned s c boot) p) first_place ∙ sym e))
