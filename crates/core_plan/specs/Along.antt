-- Asks that are planned, and the answers to those that were made.
use Rattle.std.specs.Prelude.{ℕ, ◌+◌, List, [], ◌∷◌, ◌++◌, length, take, if◌then◌else◌}
use Rattle.domain_spec.specs.Types.{Answer, Ask}
use Rattle.domain_spec.specs.declared.planned.PlannedAsk.{PlannedAsk}
use Rattle.domain_spec.specs.Asks.{is_ok_answer, is_undone}

-- what is planned, and what was answered so far
pub record Asked : Type 0 where
  pub plan : List PlannedAsk
  pub answers : List Answer

-- the course with one more answer
abbrev pub answered : Asked → Answer → Asked
answered a x = record a { answers = a.answers ++ x ∷ [] }

-- the asks that are made, along the answers: after the first that is not Ok its undo
abbrev pub made_along : List PlannedAsk → List Answer → List Ask
made_along plan [] = []
made_along [] (a ∷ answers) = []
made_along (p ∷ plan) (a ∷ answers) =
    p.ask ∷ (if is_ok_answer a then made_along plan answers else if is_undone a then take (length answers) p.undo else [])

-- how many asks are made at most
abbrev pub most_asks : List PlannedAsk → ℕ
most_asks [] = 0
most_asks (p ∷ plan) = 1 + (length p.undo + most_asks plan)
