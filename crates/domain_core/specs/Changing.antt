-- Why a turn of a cell may be left: it goes on with the history, its marks are its own, and others keep what they have.
use Rattle.std.specs.Prelude.{◌≡◌, ℕ, List, []}
use Rattle.history_spec.specs.Pass.{own}
use Rattle.turn_cell.specs.Turning.{Changes}
use Rattle.domain_spec.specs.declared.core_step.CoreStep.{CoreStep}
use Rattle.domain_spec.specs.declared.mark.Mark.{Mark}
use Rattle.core_steps.specs.Turning.{HasTurned}
use Rattle.domain_core.specs.Celled.{Celled, KeepsOtherShares}
use Rattle.domain_core.specs.Meaning.{history_of, meaning}
use Rattle.core_step_laws.specs.Chapters.{marks_kept}
use Rattle.core_step_laws.specs.Shares.{IsStepOf, whose}

-- a step of this number changes what its pass may change, by the marks of its own
abbrev pub TurnsChange : Type 0
TurnsChange =
    (old new : Celled) (t : CoreStep ℕ) (n : ℕ) (left : List (Mark ℕ)) → IsStepOf n t → HasTurned old.core.turning new.core.turning t left → KeepsOtherShares n old new
    → Changes meaning n (own whose n (marks_kept t left)) old new

-- so does a turn that leaves the history as it is, by no mark
abbrev pub StillTurnsChange : Type 0
StillTurnsChange = (old new : Celled) (n : ℕ) → history_of new ≡ history_of old → KeepsOtherShares n old new → Changes meaning n [] old new
