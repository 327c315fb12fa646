-- While a call is open, the operation beside it stays as it is, or ends.
use Rattle.std.specs.Prelude.{◌≡◌, ◌⊎◌, ℕ, List, None, Some}
use Rattle.domain_spec.specs.declared.core_step.CoreStep.{CoreStep}
use Rattle.domain_spec.specs.declared.mark.Mark.{Mark}
use Rattle.domain_spec.specs.declared.open.OpenJob.{OpenJob}
use Rattle.domain_spec.specs.Cell.{Cell, standing_of}
use Rattle.domain_spec.specs.Turns.{IsTurn, Leads}

-- a call that is open before and after a turn: the operation is the one that was, or none
abbrev pub OperationsStay : Type 0
OperationsStay =
    (c d : Cell) (t : CoreStep ℕ) (left : List (Mark ℕ)) (j k : OpenJob) → IsTurn c t left → Leads c t left d → (standing_of c).job ≡ Some j → (standing_of d).job ≡ Some k
    → ((standing_of d).operation ≡ (standing_of c).operation) ⊎ ((standing_of d).operation ≡ None)
