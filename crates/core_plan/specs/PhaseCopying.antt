-- What a phase plans, where the copy of a guest's state comes with the answer to its first ask.
use Rattle.std.specs.Prelude.{◌≡◌, ℕ, List, [], ◌∷◌, ◌++◌, map}
use Rattle.domain_spec.specs.Types.{Answer, Call, State}
use Rattle.domain_spec.specs.declared.planned.PlannedAsk.{PlannedAsk}
use Rattle.domain_spec.specs.Asks.{value_of}
use Rattle.domain_spec.specs.Phase.{plan_in}
use Rattle.domain_spec.specs.PhaseAsks.{copied_bytes}
use Rattle.core_plan.specs.Along.{Asked}
pub use Rattle.core_plan.specs.Copying.{planned_writing, writing}

-- a plan with this copy in it
abbrev pub with_copy : List ℕ → List PlannedAsk → List PlannedAsk
with_copy bytes plan = map (planned_writing bytes) plan

-- a plan where one more answer came; the first one may bring the copy
abbrev pub plan_after : List Answer → Answer → List PlannedAsk → List PlannedAsk
plan_after [] x plan = with_copy (copied_bytes (value_of x)) plan
plan_after (a ∷ answers) x plan = plan

-- one more answer came
abbrev pub with_answer : Asked → Answer → Asked
with_answer a x = record { plan = plan_after a.answers x a.plan; answers = a.answers ++ x ∷ [] }

-- what is planned changes with an answer in no other way
abbrev pub PlansFollowAnswers : Type 0
PlansFollowAnswers =
    (s : State) (c : Call) (answers : List Answer) (x : Answer)
    → plan_in s c (answers ++ x ∷ []) ≡ plan_after answers x (plan_in s c answers)
