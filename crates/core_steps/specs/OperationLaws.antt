-- Laws of turns: what a domain's history with its listeners leaves of an operation is what a turn of a cell leaves.
use Rattle.std.specs.Prelude.{ℕ, List, Option}
use Rattle.domain_spec.specs.Types.{Call, Reply, Who}
use Rattle.domain_spec.specs.declared.core_step.CoreStep.{CoreStep}
use Rattle.domain_spec.specs.declared.core_step.CoreStep.TheVariants as step
use Rattle.domain_spec.specs.CanTake.{CanTake}
use Rattle.domain_spec.specs.Cell.{HeldEvent, LentEars, Queue}
use Rattle.domain_spec.specs.Turns.{AllHaveRoom}
use Rattle.event_queue.specs.Listening.{registrations}
use Rattle.core_log.specs.Record.{Recorded, force_of}
use Rattle.core_steps.specs.Turning.{FitsJob, IsSettled, cell_of, turning}
use Rattle.core_steps.specs.Beginning.{BeginsSo, LooksToBegin, LooksToTakeUp, TakesUpSo}
use Rattle.core_steps.specs.OperationEnding.{Ends, EndsSo}
use Rattle.core_steps.specs.Phasing.{IsDue, Phases, PhasesSo}
use Rattle.core_steps.specs.declared.beginning.OperationLook.{OperationLook}
use Rattle.core_steps.specs.declared.phasing.PhaseLook.{PhaseLook}

-- what is known before a turn of an operation
pub record CanTurn (old : Recorded) (q : Queue) (held : List HeldEvent) (ears : Option LentEars) (t : CoreStep ℕ) : Type 0 where
  pub can : CanTake (cell_of old q held ears) t
  pub settled : IsSettled old
  pub room : AllHaveRoom (registrations old.listeners)
  pub fits : FitsJob (force_of old).job held

-- the end of an operation that is over is one step of the cell
abbrev pub EndsAreTurns : Type 0
EndsAreTurns =
    (old new : Recorded) (q : Queue) (held : List HeldEvent) (ears : Option LentEars) (n : ℕ) (who : Who) (told : Reply)
    → CanTurn old q held ears (step.EndOp n who) → IsSettled new → EndsSo n who old new told
    → Ends n who (turning old q held ears) (turning new q held ears) told

-- what a call finds that begins an operation is one step of the cell
abbrev pub BeginsAreTurns : Type 0
BeginsAreTurns =
    (old new : Recorded) (q p : Queue) (held : List HeldEvent) (ears : Option LentEars) (n : ℕ) (who : Who) (d : Call) (result : OperationLook)
    → CanTurn old q held ears (step.BeginOp n who d) → IsSettled new → BeginsSo n who d old new q p result
    → LooksToBegin n who d (turning old q held ears) (turning new p held ears) result

-- what a call finds that takes one up is one step of the cell
abbrev pub TakeUpsAreTurns : Type 0
TakeUpsAreTurns =
    (old new : Recorded) (q p : Queue) (held : List HeldEvent) (ears : Option LentEars) (n : ℕ) (who : Who) (d : Call) (result : OperationLook)
    → CanTurn old q held ears (step.TakeUp n who d) → IsSettled new → TakesUpSo n who d old new q p result
    → LooksToTakeUp n who d (turning old q held ears) (turning new p held ears) result

-- what comes of a due phase is one step of the cell
abbrev pub PhasesAreTurns : Type 0
PhasesAreTurns =
    (old new : Recorded) (q : Queue) (held : List HeldEvent) (ears : Option LentEars) (n : ℕ) (who : Who) (result : PhaseLook)
    → CanTurn old q held ears (step.Phase n who) → IsDue (force_of old).operation n who → IsSettled new → PhasesSo n who old new result
    → Phases n who (turning old q held ears) (turning new q held ears) result
