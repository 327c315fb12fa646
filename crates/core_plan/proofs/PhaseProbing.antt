-- Where the answers that are tried are in a phase's plan.
use Rattle.std.proofs.Common.{◌≡◌, ℕ, zero, suc, List, [], ◌∷◌, ◌++◌, slice_get, option_map, Bool, true, false, Option, None, Some, if◌then◌else◌, refl, sym, ap, ◌∙◌}
use Rattle.domain_spec.specs.Types.{Answer, Ask, Call, State}
use Rattle.domain_spec.specs.declared.open.OpenOperation.{OpenOperation}
use Rattle.domain_spec.specs.declared.planned.PlannedAsk.{PlannedAsk}
use Rattle.domain_spec.specs.Asks.{asks_left, value_of}
use Rattle.domain_spec.specs.Phase.{phase_still_asked, plan_in}
use Rattle.domain_spec.specs.PhaseAsks.{copied_bytes}
use Rattle.domain_spec.specs.Reading.{carries_ended}
use Rattle.core_rules.specs.declared.course.Place.{Place}
use Rattle.core_rules.specs.declared.course.Place.TheVariants as place
use Rattle.core_rules.specs.declared.next.Next.TheVariants as next
use Rattle.core_rules.specs.Next.{next_if, next_of}
use Rattle.core_rules.specs.Place.{next_at, place_after, undo_step_of}
use Rattle.core_rules.proofs.NextAsk.{next_is_at}
use Rattle.core_plan.specs.PhaseCopying.{with_copy}
use Rattle.core_plan.specs.PhaseGoing.{phase_planned}
use Rattle.core_plan.proofs.Following.{in_later, plans_follow}
use Rattle.core_plan.proofs.Writing.{same_fresh}
use Rattle.core_plan.specs.PhaseProbing.{BringsNone}

-- one more answer that brings no copy
pub brings_more : (answers : List Answer) (x : Answer) → copied_bytes (value_of x) ≡ [] → BringsNone answers → BringsNone (answers ++ x ∷ [])
brings_more [] x none h = none
brings_more (a ∷ answers) x none h = h

-- what a phase plans where no copy came is what it plans before any answer
plan_probed : (s : State) (c : Call) (answers : List Answer) → BringsNone answers → plan_in s c answers ≡ plan_in s c []
plan_probed s c [] h = refl
plan_probed s c (a ∷ answers) h =
    in_later s c a answers [] ∙ plans_follow s c [] a ∙ ap (λ (bytes : List ℕ). with_copy bytes (plan_in s c [])) h ∙ same_fresh s c

abbrev no_plan : List PlannedAsk
no_plan = []

get_nil : (n : ℕ) → slice_get no_plan n ≡ None
get_nil zero = refl
get_nil (suc n) = refl

nothing_at : (p : Place) → next_at [] p ≡ next.Finish
nothing_at (place.Plan n) = ap (λ (o : Option PlannedAsk). next_if (option_map (λ q. q.ask) o)) (get_nil n)
nothing_at (place.Undo of step) = ap (λ (o : Option PlannedAsk). next_if (undo_step_of o step)) (get_nil of)
nothing_at place.Through = refl

left_by : (ended : Bool) (plan : List PlannedAsk) (answers : List Answer) → next_of (if ended then [] else asks_left plan answers) ≡ next_at (if ended then [] else plan) (place_after answers)
left_by true plan answers = sym (nothing_at (place_after answers))
left_by false plan answers = next_is_at plan answers

-- what the driver says is next is what the plan has at the place of these answers
pub next_planned : (s : State) (o : OpenOperation) (answers : List Answer) → BringsNone answers
    → next_of (phase_still_asked s o answers) ≡ next_at (phase_planned s o) (place_after answers)
next_planned s o answers h =
    ap (λ (plan : List PlannedAsk). next_of (if carries_ended s o.boot then [] else asks_left plan answers)) (plan_probed s o.call answers h)
    ∙ left_by (carries_ended s o.boot) (plan_in s o.call []) answers
