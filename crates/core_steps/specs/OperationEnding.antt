-- How an operation ends that is over.
use Rattle.std.specs.Prelude.{◌≡◌, ℕ, [], ◌∷◌, Option, None, Some}
use Rattle.domain_spec.specs.Types.{Reply, Who}
use Rattle.domain_spec.specs.declared.core_step.CoreStep.TheVariants as step
use Rattle.domain_spec.specs.declared.mark.Mark.TheVariants as mark
use Rattle.domain_spec.specs.declared.open.OpenOperation.{OpenOperation}
use Rattle.domain_spec.specs.declared.step.Outcome.{Outcome}
use Rattle.domain_spec.specs.declared.step.Outcome.TheVariants as outcome
use Rattle.domain_spec.specs.Cell.{standing_of}
use Rattle.core_log.specs.Below.core_chapter.Closing.{reply_in}
use Rattle.core_log.specs.Below.core_flight.Operations.{IsToldAtEnd}
use Rattle.core_log.specs.Record.{HasMarked, Recorded, force_of}
use Rattle.core_steps.specs.Turning.{Takes, Turning}

-- no phase is left
abbrev pub IsOver : Outcome → Type 0
IsOver (outcome.Over r) = Unit {0}
IsOver other = ⊥

-- the open operation is of this number and caller, and is over
abbrev pub CanEnd : Option OpenOperation → ℕ → Who → Type 0
CanEnd None n who = ⊥
CanEnd (Some o) n who = (n ≡ o.number) × (who ≡ o.who) × IsOver o.outcome

-- the operation ended with the reply of its last phase, and its caller is told that
pub record EndsSo (n : ℕ) (who : Who) (old new : Recorded) (told : Reply) : Type 0 where
  pub marked : HasMarked old new (mark.End n who (reply_in (force_of old).operation) ∷ [])
  pub told_so : IsToldAtEnd (reply_in (force_of old).operation) told
  pub course : new.course ≡ old.course

-- what the turn comes to by which an operation ends
abbrev pub Ends : ℕ → Who → Turning → Turning → Reply → Type 0
Ends n who old new told =
    Takes old new (step.EndOp n who)
    (λ left. (left ≡ mark.End n who (reply_in (standing_of old.cell).operation) ∷ []) × IsToldAtEnd (reply_in (standing_of old.cell).operation) told)
