-- What was asked of others, with what they answered.
use Rattle.std.specs.Prelude.{List, [], ◌∷◌, ◌++◌, filter, not, zip, Bool, true, false}
use Rattle.domain_spec.specs.Types.{Answer, Ask}
use Rattle.domain_spec.specs.Types.answer
use Rattle.domain_spec.specs.Cell.{OpenCall}

-- there was no memory
abbrev pub is_no_memory : Answer → Bool
is_no_memory answer.NoMemory = true
is_no_memory other = false

-- each ask with its answer, but for those for which there was no memory
abbrev pub told : List Ask → List Answer → List (Ask × Answer)
told asks answers = filter (λ p. not (is_no_memory p.1)) (zip asks answers)

-- what an open call was told so far, and then this answer to this ask
abbrev pub told_then : OpenCall → Ask → Answer → List (Ask × Answer)
told_then c y x = told c.asks c.answers ++ told (y ∷ []) (x ∷ [])
