-- The asks of plans, each at its place.
use Rattle.std.proofs.Common.{◌≡◌, ℕ, zero, suc, ◌<◌, true, is_some, Option, None, Some, Result, Ok, Err, OnErr, ◌-◌, ◌≤◌, List, [], ◌∷◌, ◌++◌, length, slice_get, refl, sym, ap, ◌∙◌, arith}
use Rattle.domain_spec.specs.Types.{Answer, Ask}
use Rattle.domain_spec.specs.declared.planned.PlannedAsk.{PlannedAsk}
use Rattle.domain_spec.specs.Asks.{asks_left, plain, undone_by}
use Rattle.core_rules.specs.declared.course.Place.{Place}
use Rattle.core_rules.specs.declared.next.Next.{Next}
use Rattle.core_rules.specs.Next.{is_ask, next_if, next_of}
use Rattle.core_rules.specs.Place.{next_at, place_after, planned_at}
use Rattle.core_rules.proofs.NextAsk.{next_is_at}

-- what is next is what is at the place of the next ask
pub next_there : (plan : List PlannedAsk) (answers : List Answer) (p : Place) (next : Next) → p ≡ place_after answers → next ≡ next_at plan p → next ≡ next_of (asks_left plan answers)
next_there plan answers p next there is = is ∙ ap (next_at plan) there ∙ sym (next_is_at plan answers)

-- two asks after others, of which the last has an undo
pub planned_two : (front : List Ask) (b l : Ask) (undo : List Ask) (n : ℕ) → planned_at (plain (front ++ b ∷ []) ++ undone_by undo (l ∷ [])) n ≡ slice_get (front ++ b ∷ l ∷ []) n
planned_two [] b l undo zero = refl
planned_two [] b l undo (suc zero) = refl
planned_two [] b l undo (suc (suc n)) = refl
planned_two (x ∷ front) b l undo zero = refl
planned_two (x ∷ front) b l undo (suc n) = planned_two front b l undo n

-- what comes after a front of a list
pub behind_front : (front others : List Ask) (n : ℕ) → length front ≤ n → slice_get (front ++ others) n ≡ slice_get others (n - length front)
behind_front [] others n le = let e : n - 0 ≡ n = omega arith in sym (ap (slice_get others) e)
behind_front (x ∷ front) others zero le = absurd (omega arith)
behind_front (x ∷ front) others (suc n) le =
    let e : suc n - suc (length front) ≡ n - length front = omega arith in
    behind_front front others n (omega arith) ∙ sym (ap (slice_get others) e)

-- what is said of running out of memory holds where it holds in any case
pub in_any_case : {T E P : Type 0} (r : Result T E) → P → OnErr r P
in_any_case (Ok x) p = tt
in_any_case (Err e) p = p

-- a place before the two asks is one of the others
pub lead_there : (front : List Ask) (b l : Ask) (undo : List Ask) (n : ℕ) → n < length front → is_some (planned_at (plain (front ++ b ∷ []) ++ undone_by undo (l ∷ [])) n) ≡ true
lead_there [] b l undo n within = absurd (omega arith)
lead_there (x ∷ front) b l undo zero within = refl
lead_there (x ∷ front) b l undo (suc n) within = lead_there front b l undo n (omega arith)

asks_if : (o : Option Ask) → is_ask (next_if o) ≡ is_some o
asks_if None = refl
asks_if (Some a) = refl

-- something is asked where an ask is at the place of the next one
pub asks_there : (plan : List PlannedAsk) (answers : List Answer) (p : Place) (o : Option Ask) → p ≡ place_after answers → next_at plan p ≡ next_if o → is_some o ≡ true → is_ask (next_of (asks_left plan answers)) ≡ true
asks_there plan answers p o there at some =
    ap is_ask (next_is_at plan answers ∙ ap (next_at plan) (sym there) ∙ at) ∙ asks_if o ∙ some
