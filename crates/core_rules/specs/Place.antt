-- Where the next ask is in a plan: among the planned asks, or in the undo of one of them.
use Rattle.std.specs.Prelude.{ℕ, ◌+◌, ◌-◌, ◌==◌, List, length, slice_get, option_map, Option, None, Some, if◌then◌else◌}
use Rattle.domain_spec.specs.Types.{Answer, Ask}
use Rattle.domain_spec.specs.declared.planned.PlannedAsk.{PlannedAsk}
use Rattle.domain_spec.specs.Asks.{first_bad, first_bad_at, is_undone}
use Rattle.core_rules.specs.declared.course.Place.{Place}
use Rattle.core_rules.specs.declared.course.Place.TheVariants as place
use Rattle.core_rules.specs.declared.next.Next.{Next}
use Rattle.core_rules.specs.declared.next.Next.TheVariants as next
use Rattle.core_rules.specs.Next.{next_if}

-- after an answer that is not Ok: in the undo of its ask, as many steps on as answers came since
abbrev pub place_behind : ℕ → ℕ → Option Answer → Place
place_behind count of None = place.Through
place_behind count of (Some bad) = if is_undone bad then place.Undo of (count - (of + 1)) else place.Through

-- by the place of the first answer that is not Ok; where each is Ok, as far in the plan as there
-- are answers
abbrev pub place_by : List Answer → Option ℕ → Place
place_by answers None = place.Plan (length answers)
place_by answers (Some of) = place_behind (length answers) of (first_bad answers)

-- the place of the ask that is next after these answers, in every plan
unfoldable pub place_after : List Answer → Place
place_after answers = place_by answers (first_bad_at answers)

-- the planned ask at this place
abbrev pub planned_at : List PlannedAsk → ℕ → Option Ask
planned_at plan n = option_map (λ p. p.ask) (slice_get plan n)

-- the step at this place of what undoes a planned ask
abbrev pub undo_step_of : Option PlannedAsk → ℕ → Option Ask
undo_step_of None step = None
undo_step_of (Some planned) step = slice_get planned.undo step

-- the step at this place of what undoes the planned ask at that place
abbrev pub undo_step : List PlannedAsk → ℕ → ℕ → Option Ask
undo_step plan of step = undo_step_of (slice_get plan of) step

-- what is next where it is at this place of the plan
abbrev pub next_at : List PlannedAsk → Place → Next
next_at plan (place.Plan n) = next_if (planned_at plan n)
next_at plan (place.Undo of step) = next_if (undo_step plan of step)
next_at plan place.Through = next.Finish

-- what is next at this place of a plan of one ask or none, which nothing undoes
abbrev pub next_of_one : Option Ask → Place → Next
next_of_one one (place.Plan n) = if n == 0 then next_if one else next.Finish
next_of_one one other = next.Finish
