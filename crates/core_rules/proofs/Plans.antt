-- The asks of plans whose asks all have one undo, or none.
use Rattle.std.proofs.Common.{◌≡◌, ◌==◌, ◌<◌, ◌≤◌, ℕ, zero, suc, ◌∙◌, List, [], ◌∷◌, Bool, true, false, Option, None, Some, if◌then◌else◌, nat_lt, length, slice_get, refl, arith}
use Rattle.std.proofs.lemmas.Bool.{eqb-true, ltb-true}
use Rattle.std.proofs.lemmas.Bool.Decides.{nat_tests}
use Rattle.domain_spec.specs.Types.{Answer, Ask}
use Rattle.domain_spec.specs.Asks.{asks_left, plain, undone_by}
use Rattle.core_rules.specs.declared.course.Place.{Place}
use Rattle.core_rules.specs.declared.course.Place.TheVariants as place
use Rattle.core_rules.specs.declared.next.Next.TheVariants as next
use Rattle.core_rules.specs.Next.{at_most, next_if, next_of}
use Rattle.core_rules.specs.Place.{next_at, next_of_one, place_after, planned_at, undo_step}
use Rattle.core_rules.proofs.NextAsk.{next_is_at}

-- the planned asks are the asks
pub planned_in : (undo asks : List Ask) (n : ℕ) → planned_at (undone_by undo asks) n ≡ slice_get asks n
planned_in undo [] n = refl
planned_in undo (a ∷ asks) zero = refl
planned_in undo (a ∷ asks) (suc n) = planned_in undo asks n

further : (m n : ℕ) (b : Bool) → nat_lt (suc m) (suc n) ≡ b → nat_lt m n ≡ b
further m n true e = grind (arith, nat_tests)
further m n false e = grind (arith, nat_tests)

undone_by_place :
    (undo asks : List Ask) (of step : ℕ) (b : Bool) → nat_lt of (length asks) ≡ b
    → undo_step (undone_by undo asks) of step ≡ (if b then slice_get undo step else None)
undone_by_place undo [] of step true e = let lt : of < 0 = ltb-true of 0 e in absurd (omega arith)
undone_by_place undo [] of step false e = refl
undone_by_place undo (a ∷ asks) zero step true e = refl
undone_by_place undo (a ∷ asks) zero step false e = let le : suc (length asks) ≤ 0 = grind (arith, nat_tests) in absurd (omega arith)
undone_by_place undo (a ∷ asks) (suc of) step b e = undone_by_place undo asks of step b (further of (length asks) b e)

-- each ask has that undo
pub undone_in : (undo asks : List Ask) (of step : ℕ) → undo_step (undone_by undo asks) of step ≡ (if nat_lt of (length asks) then slice_get undo step else None)
undone_in undo asks of step = undone_by_place undo asks of step (nat_lt of (length asks)) refl

-- nothing undoes a plain ask
pub none_undone : (asks : List Ask) (of step : ℕ) → undo_step (plain asks) of step ≡ None
none_undone [] of step = refl
none_undone (a ∷ asks) zero step = refl
none_undone (a ∷ asks) (suc of) step = none_undone asks of step

at_plan : (one : Option Ask) (n : ℕ) (b : Bool) → (n == 0) ≡ b → next_at (plain (at_most one)) (place.Plan n) ≡ (if b then next_if one else next.Finish)
at_plan None zero true e = refl
at_plan (Some a) zero true e = refl
at_plan one zero false e = cc
at_plan one (suc n) true e = let z : suc n ≡ 0 = eqb-true (suc n) 0 e in absurd (omega arith)
at_plan None (suc n) false e = refl
at_plan (Some a) (suc n) false e = refl

at_place : (one : Option Ask) (p : Place) → next_at (plain (at_most one)) p ≡ next_of_one one p
at_place one (place.Plan n) = at_plan one n (n == 0) refl
at_place None (place.Undo of step) = refl
at_place (Some a) (place.Undo zero step) = refl
at_place (Some a) (place.Undo (suc of) step) = refl
at_place None place.Through = refl
at_place (Some a) place.Through = refl

-- a plan of one ask or none
pub next_of_plain : (one : Option Ask) (answers : List Answer) → next_of (asks_left (plain (at_most one)) answers) ≡ next_of_one one (place_after answers)
next_of_plain one answers = next_is_at (plain (at_most one)) answers ∙ at_place one (place_after answers)
