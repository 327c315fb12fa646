-- A guest's whole life as a list of steps.
use Rattle.std.specs.Prelude.{ℕ, List, [], ◌∷◌, ◌++◌, false, None, Some}
use Rattle.domain_spec.specs.Types.{Answer, DomainDef, Who}
use Rattle.domain_spec.specs.Types.ask
use Rattle.domain_spec.specs.Types.call
use Rattle.domain_spec.specs.Types.command
use Rattle.domain_spec.specs.Types.job
use Rattle.domain_spec.specs.Types.phase
use Rattle.domain_spec.specs.Types.reply
use Rattle.domain_spec.specs.Types.told
use Rattle.domain_spec.specs.Types.value
use Rattle.domain_spec.specs.declared.core_step.CoreStep.{CoreStep}
use Rattle.domain_spec.specs.declared.core_step.CoreStep.TheVariants as step
use Rattle.domain_spec.specs.declared.core_step.First.TheVariants as first
use Rattle.domain_spec.specs.declared.mark.Mark.{Mark}
use Rattle.domain_spec.specs.declared.mark.Mark.TheVariants as mark
use Rattle.domain_spec.specs.declared.step.Outcome.TheVariants as outcome
use Rattle.domain_spec.specs.Call.{tell}
use Rattle.domain_spec.specs.Cell.{Cell}
use Rattle.domain_spec.specs.Chapter.{first_base}
use Rattle.domain_spec.specs.PhaseAsks.{two}
use Rattle.domain_spec.specs.Turns.{Runs, Turn}
use Rattle.domain_spec.specs.WholeLife.{ok, unconnected, whole_life}

-- a cell with this history, in which nobody waits or is registered
abbrev pub cell_of : DomainDef → List (Mark ℕ) → List Answer → Cell
cell_of def marks answers =
    record {
      base = first_base (Some def) false;
      marks = marks;
      registrations = [];
      answers = answers;
      queue = record { callers = []; passes = [] };
      held = [];
      ears = None;
    }

-- a step, and the marks that it leaves
abbrev pub turn : CoreStep ℕ → List (Mark ℕ) → Turn
turn t marks = record { of_step = t; marks = marks }

-- the operation begins, and its first phase asks that the guest be made
abbrev pub making : DomainDef → ℕ → Who → List Turn
making def n who =
    turn (step.BeginOp n who call.Start) (mark.Admit n who job.Modify call.Start None ∷ mark.Start n who call.Start None ∷ [])
    ∷ turn (step.Phase n who) (mark.Admit n who job.Nested call.Start (Some 1) ∷ [])
    ∷ turn (step.Back n ok) (mark.Phase n who phase.Make (ask.Make def 1 ∷ []) (ok ∷ []) (outcome.On phase.Run) [] ∷ []) ∷ []

-- the guest is set going by two commands, and the operation ends
abbrev pub running : ℕ → Who → List Turn
running n who =
    turn (step.Phase n who) (mark.Admit n who job.Nested call.Start (Some 1) ∷ [])
    ∷ turn (step.Back n ok) []
    ∷ turn (step.Back n ok) (mark.Phase n who phase.Run (two command.QueryStatus command.Cont) (ok ∷ ok ∷ []) (outcome.Over (reply.Ok value.Nothing)) (told.STARTED_BOOTED ∷ []) ∷ [])
    ∷ turn (step.EndOp n who) (mark.End n who (reply.Ok value.Nothing) ∷ []) ∷ []

-- the guest is suspended, and then destroyed
abbrev pub ending : ℕ → Who → List Turn
ending n who =
    turn (step.Look n who call.Suspend first.Now) (mark.Admit n who job.Suspend call.Suspend (Some 1) ∷ [])
    ∷ turn (step.Back n ok) (mark.Done n who call.Suspend (Some 1) (tell command.Stop) (ok ∷ []) (reply.Ok value.Nothing) (told.SUSPENDED_PAUSED ∷ []) ∷ [])
    ∷ turn (step.Look n who call.Destroy first.Now) (mark.Admit n who job.Destroy call.Destroy (Some 1) ∷ [])
    ∷ turn (step.Back n ok) (mark.Done n who call.Destroy (Some 1) (tell command.Quit) (ok ∷ []) (reply.Ok value.Nothing) (told.STOPPED_DESTROYED ∷ []) ∷ []) ∷ []

-- these steps leave the history of a guest's whole life
abbrev pub LifeIsRun : Type 0
LifeIsRun =
    (def : DomainDef) (n : ℕ) (who : Who)
    → Runs (cell_of (unconnected def) [] []) (making (unconnected def) n who ++ running n who ++ ending n who)
    (cell_of (unconnected def) (whole_life (unconnected def) n who) [])
