-- A copy of a guest's state, put into the ask that writes it.
use Rattle.std.specs.Prelude.{ℕ, Bool, true, false, List, [], ◌∷◌}
use Rattle.domain_spec.specs.Types.{Ask}
use Rattle.domain_spec.specs.Types.ask
use Rattle.domain_spec.specs.declared.planned.PlannedAsk.{PlannedAsk}

-- the ask by which an image is written, with this copy in it
abbrev pub writing : List ℕ → Ask → Ask
writing bytes (ask.WriteImage name k ran def saved) = ask.WriteImage name k ran def bytes
writing bytes other = other

-- what is planned with this copy in it
abbrev pub planned_writing : List ℕ → PlannedAsk → PlannedAsk
planned_writing bytes p = record p { ask = writing bytes p.ask }

-- a plan whose second ask has this copy in it, where it writes an image
abbrev pub written : List ℕ → List PlannedAsk → List PlannedAsk
written bytes [] = []
written bytes (p ∷ []) = p ∷ []
written bytes (p ∷ q ∷ plan) = p ∷ planned_writing bytes q ∷ plan

-- the ask writes an image
abbrev pub is_image : Ask → Bool
is_image (ask.WriteImage name k ran def saved) = true
is_image other = false

-- the second of the planned asks writes an image
abbrev pub writes_second : List PlannedAsk → Bool
writes_second [] = false
writes_second (p ∷ []) = false
writes_second (p ∷ q ∷ plan) = is_image q.ask
