-- What a phase leaves that loads a state, or begins or polls a copy, where its answers are all Ok.
use Rattle.std.specs.Prelude.{ℕ, ◌+◌, List, [], ◌∷◌, Bool, true, false, not, nat_le, Option, None, Some, unwrap_or, if◌then◌else◌}
use Rattle.domain_spec.specs.Types.{AnswerValue, Call, Domain, Live, Op, OpKind, Phase, Refusal, Reply, RunState, State, Transition, Value}
use Rattle.domain_spec.specs.Types.call
use Rattle.domain_spec.specs.Types.cause
use Rattle.domain_spec.specs.Types.kind
use Rattle.domain_spec.specs.Types.phase
use Rattle.domain_spec.specs.Types.reply
use Rattle.domain_spec.specs.Types.run
use Rattle.domain_spec.specs.Types.state
use Rattle.domain_spec.specs.Types.told
use Rattle.domain_spec.specs.Types.given
use Rattle.domain_spec.specs.Types.value
use Rattle.domain_spec.specs.declared.step.Outcome.TheVariants as outcome
use Rattle.domain_spec.specs.declared.step.PhaseStep.{PhaseStep}
use Rattle.domain_spec.specs.Devices.{slots_at_start}
use Rattle.domain_spec.specs.declared.loaded.Loaded.{Loaded}
use Rattle.domain_spec.specs.PhaseAsks.{is_given_up, loaded_of}
use Rattle.domain_spec.specs.Reading.{is_running, reference_of, with_run}
use Rattle.domain_spec.specs.Refusals.{aborted, stalled}
use Rattle.domain_spec.specs.CallResult.{tell_listeners}

-- the operation goes on with this phase
abbrev pub goes_on : Domain → Op → Phase → List Transition → PhaseStep
goes_on d op next events = record {
  state = state.Held (record d { op = Some (record op { phase = next }) });
  transitions = events;
  outcome = outcome.On next;
}

-- the operation is over
abbrev pub over : State → List Transition → Reply → PhaseStep
over s events r = record { state = s; transitions = events; outcome = outcome.Over r }

-- a guest that was loaded goes on as it was: it runs, or it is paused
abbrev pub run_as : Bool → RunState
run_as true = run.Running
run_as false = run.Paused cause.User

-- a guest that did not run is paused once it has its state
abbrev pub paused_unless : Bool → List Transition
paused_unless ran = tell_listeners (not ran) told.SUSPENDED_PAUSED

-- who starts a domain that was not there is answered how to name it
abbrev pub start_value : Domain → Call → Value
start_value d (call.Create def) = value.Domain (reference_of d)
start_value d (call.Prepare def running saved) = value.Domain (reference_of d)
start_value d other = value.Nothing

-- what a revert makes the current snapshot
abbrev pub current_after : Domain → Call → Option (List ℕ)
current_after d (call.Revert name) = Some name
current_after d other = d.current

-- how listeners are told that a guest has its state
abbrev pub restored_as : Call → Transition
restored_as (call.Revert name) = told.STARTED_FROM_SNAPSHOT
restored_as other = told.STARTED_RESTORED

-- a new boot has its state
abbrev pub loaded_new : Domain → Live → Call → Loaded → PhaseStep
loaded_new d l c loaded =
    over (state.Held (record d { live = Some (record l { run = run_as loaded.ran }); current = current_after d c }))
    (restored_as c ∷ paused_unless loaded.ran) (reply.Ok value.Nothing)

-- a guest has the state of a snapshot in the boot that it had
abbrev pub loaded_active : Domain → Live → Call → Loaded → PhaseStep
loaded_active d l c loaded =
    over (state.Held (record d {
      live = Some (record l { run = run_as loaded.ran; def = loaded.definition; slots = slots_at_start loaded.definition });
      current = current_after d c;
    }))
    (told.STOPPED_FROM_SNAPSHOT ∷ told.STARTED_FROM_SNAPSHOT ∷ paused_unless loaded.ran) (reply.Ok value.Nothing)

-- a guest has its state, in a new boot or in the one that it had
abbrev pub loaded_with : Domain → Live → Op → Call → Option Loaded → PhaseStep
loaded_with d l op c None = over (state.Held d) [] (reply.Ok value.Nothing)
loaded_with d l op c (Some loaded) = if op.new_boot then loaded_new d l c loaded else loaded_active d l c loaded

-- a guest has the state of the image or the snapshot
abbrev pub load_done : Domain → Live → Op → Call → PhaseStep
load_done d l op c = loaded_with d l op c (loaded_of d c)

-- the guest stands still while its state is copied, where it ran
abbrev pub copy_done : Domain → Live → Op → PhaseStep
copy_done d l op =
    goes_on (if is_running l.run then with_run d l (run.Paused cause.Job) else d) (record op { was_running = is_running l.run }) phase.Poll
    (tell_listeners (is_running l.run) told.SUSPENDED_PAUSED)

-- the phase that gives a copy up, and the one that takes it
abbrev pub cancel_phase : OpKind → Phase
cancel_phase kind.MigrateOut = phase.MigrateCancel
cancel_phase other = phase.Cancel

-- the phase that takes a copy
abbrev pub take_phase : OpKind → Phase
take_phase kind.MigrateOut = phase.MigrateTake
take_phase other = phase.Take

-- the operation is given up, and ends with this refusal
abbrev pub cancels : Domain → Op → Refusal → PhaseStep
cancels d op r = goes_on d (record op { refusal = Some r }) (cancel_phase op.kind) []

-- how much a poll saw left; no number is nothing left
abbrev pub left_in : Option AnswerValue → ℕ
left_in (Some (given.Number n)) = n
left_in other = 0

-- polls that saw no less left than the poll before; the first poll compares with nothing
abbrev pub still_after : Op → Option ℕ → ℕ → ℕ
still_after op None left = 0
still_after op (Some before) left = if nat_le before left then op.still + 1 else 0

-- no more is left than may be: the limit is 0 but where a migration was given another
abbrev pub poll_done : Domain → Op → ℕ → PhaseStep
poll_done d op left =
    goes_on d (record op { still = still_after op op.remaining left; remaining = Some left }) (if nat_le left op.limit then take_phase op.kind else phase.Poll) []

-- before each poll: a caller asked that it be given up, or 64 polls made no headway
abbrev pub poll_step : Domain → Op → Option AnswerValue → PhaseStep
poll_step d op v =
    if op.abort then cancels d op aborted
    else if is_given_up op then cancels d op (stalled (unwrap_or op.remaining 0))
    else poll_done d op (left_in v)
