-- What a phase that is done leaves of its operation.
use Rattle.std.specs.Prelude.{◌≡◌, ℕ, List, [], ◌∷◌, option_map, Option, None}
use Rattle.domain_spec.specs.declared.mark.Mark.{Mark}
use Rattle.domain_spec.specs.declared.mark.Mark.TheVariants as mark
use Rattle.domain_spec.specs.declared.open.OpenOperation.{OpenOperation}
use Rattle.domain_spec.specs.declared.step.Outcome.{Outcome}
use Rattle.domain_spec.specs.declared.step.Outcome.TheVariants as outcome
use Rattle.domain_spec.specs.Cell.{share_of}
use Rattle.domain_spec.specs.Fold.{with_outcome}
use Rattle.core_log.specs.Below.core_flight.Ledger.{step_to}
use Rattle.core_log.specs.Below.core_flight.declared.phase_out.Step.{Step}
use Rattle.core_steps.specs.Turning.{Turning}

-- the Phase among these marks led to this, under this number
abbrev pub HasLedTo : ℕ → Outcome → List (Mark ℕ) → Type 0
HasLedTo n o [] = ⊥
HasLedTo n o (mark.Phase number who p asks answers next events ∷ left) = (number ≡ n) × (next ≡ o)
HasLedTo n o (m ∷ left) = HasLedTo n o left

-- what a number keeps of its operation whose phase led to this: nothing where it rests
abbrev pub led_to : Outcome → Option OpenOperation → Option OpenOperation
led_to (outcome.Rest r) operation = None
led_to next operation = option_map (with_outcome next) operation

-- the phase was done in this turn, and led to this; so did the operation
abbrev pub HasPhased : ℕ → Step → Turning → Turning → List (Mark ℕ) → Type 0
HasPhased n st old new left =
    (next : Outcome) × HasLedTo n next left × (st ≡ step_to next) × ((share_of new.cell n).operation ≡ led_to next (share_of old.cell n).operation)
