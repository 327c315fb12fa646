-- Laws of turns: what a domain's history with its listeners leaves of a call is what a turn of a cell leaves.
use Rattle.std.specs.Prelude.{ℕ, List, [], Option}
use Rattle.domain_spec.specs.Types.{Answer, Call, Who}
use Rattle.domain_spec.specs.Types.code
use Rattle.domain_spec.specs.declared.core_step.CoreStep.TheVariants as step
use Rattle.domain_spec.specs.declared.core_step.First.{First}
use Rattle.domain_spec.specs.CanTake.{CanLook, CanTake}
use Rattle.domain_spec.specs.Cell.{HeldEvent, LentEars, Queue}
use Rattle.domain_spec.specs.Reading.{live_boot}
use Rattle.domain_spec.specs.Turns.{AllHaveRoom}
use Rattle.core_log.specs.Below.core_flight.declared.ledger.Back.{Back}
use Rattle.core_log.specs.Below.core_flight.declared.ledger.Back.TheVariants as back
use Rattle.core_log.specs.Below.core_flight.declared.phase_out.Step.{Step}
use Rattle.event_queue.specs.Listening.{registrations}
use Rattle.core_log.specs.Record.{Recorded, force_of}
use Rattle.core_steps.specs.Answering.{Answers, GoesBack, IsNotPhased, held_after}
use Rattle.core_steps.specs.declared.looking.Looked.{Looked}
use Rattle.core_steps.specs.declared.refusing.Refusable.{Refusable}
use Rattle.core_steps.specs.Looking.{IsKnownFirst, Looks, LooksSo, boot_first}
use Rattle.core_steps.specs.Refusing.{GivesUp, HasRefused}
use Rattle.core_steps.specs.Turning.{FitsJob, IsSettled, Takes, cell_of, turning}

-- what is known before a look
pub record CanLookSo (old : Recorded) (q : Queue) (held : List HeldEvent) (ears : Option LentEars) (n : ℕ) (who : Who) (d : Call) (f : First) : Type 0 where
  pub can : CanLook (cell_of old q held ears) n who d f
  pub known : IsKnownFirst f (cell_of old q held ears)
  pub settled : IsSettled old
  pub room : AllHaveRoom (registrations old.listeners)
  pub fits : FitsJob (force_of old).job held

-- what a look finds, and leaves of the history and of who waits, is one step of the cell
abbrev pub LooksAreTurns : Type 0
LooksAreTurns =
    (old new : Recorded) (q p : Queue) (held : List HeldEvent) (ears : Option LentEars) (n : ℕ) (who : Who) (d : Call) (f : First) (result : Looked) → CanLookSo old q held ears n who d f → IsSettled new
    → LooksSo n who d (boot_first f (live_boot (force_of old).state)) old new q p result → Looks n who d f (turning old q held ears) (turning new p held ears) result

-- what an answer leaves of the history of a call, once the held events apply, is one step of the cell; so it is where a
-- phase asks on
abbrev pub AnswersAreTurns : Type 0
AnswersAreTurns =
    (old new : Recorded) (q : Queue) (held : List HeldEvent) (ears : Option LentEars) (n : ℕ) (x : Answer) (left : Back)
    → CanTake (cell_of old q held ears) (step.Back n x) → AllHaveRoom (registrations old.listeners) → IsSettled old → IsSettled new → Answers n old.course x held old new left → IsNotPhased left
    → GoesBack n x (turning old q held ears) (turning new q (held_after left held) ears) left

-- the same where a phase is done
abbrev pub PhaseAnswersAreTurns : Type 0
PhaseAnswersAreTurns =
    (old new : Recorded) (q : Queue) (held : List HeldEvent) (ears : Option LentEars) (n : ℕ) (x : Answer) (st : Step)
    → CanTake (cell_of old q held ears) (step.Back n x) → AllHaveRoom (registrations old.listeners) → IsSettled old → IsSettled new → Answers n old.course x held old new (back.Phased st)
    → GoesBack n x (turning old q held ears) (turning new q [] ears) (back.Phased st)

-- what the refusal of a call leaves that looked often enough is one step of the cell
abbrev pub RefusalsAreTurns : Type 0
RefusalsAreTurns =
    (old new : Recorded) (q p : Queue) (held : List HeldEvent) (ears : Option LentEars) (n : ℕ) (x : Refusable)
    → CanTake (cell_of old q held ears) (step.GiveUp n x.who x.call) → IsSettled old → FitsJob (force_of old).job held → IsSettled new → GivesUp n x old new q p
    → Takes (turning old q held ears) (turning new p held ears) (step.GiveUp n x.who x.call) (HasRefused n x.who x.call code.OperationTimeout)
