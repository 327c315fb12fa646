-- A call that is open stays so in each turn but its own.
use Rattle.std.specs.Prelude.{◌≡◌, ℕ, List, Option, None, Some}
use Rattle.domain_spec.specs.declared.core_step.CoreStep.{CoreStep}
use Rattle.domain_spec.specs.declared.mark.Mark.{Mark}
use Rattle.domain_spec.specs.declared.open.OpenJob.{OpenJob}
use Rattle.domain_spec.specs.Cell.{Cell, as_let_in, standing_of}
use Rattle.domain_spec.specs.Turns.{IsOwn, IsTurn, Leads}

-- this call is open, as it was let in
abbrev pub IsStill : OpenJob → Option OpenJob → Type 0
IsStill j None = ⊥
IsStill j (Some k) = as_let_in k ≡ as_let_in j

-- a turn closes no call but one of its own number
abbrev pub CallsStay : Type 0
CallsStay =
    (c d : Cell) (t : CoreStep ℕ) (left : List (Mark ℕ)) (j : OpenJob) → IsTurn c t left → Leads c t left d → (standing_of c).job ≡ Some j → (IsOwn t j.number → ⊥)
    → IsStill j (standing_of d).job
