-- A whole phase of an operation at one place of a history, with all its answers given at once: the
-- state, the transitions and the outcome that it leaves, and the asks that it makes.
use Rattle.std.specs.Prelude.{ℕ, List, [], ◌∷◌, Option, Some, unwrap_or, if◌then◌else◌}
use Rattle.domain_spec.specs.Types.{Answer, AnswerValue, Call, Domain, DomainDef, Live, Op, OpKind, Phase, Reply, RunState, SnapInfo, Transition}
use Rattle.domain_spec.specs.Types.call
use Rattle.domain_spec.specs.Types.kind
use Rattle.domain_spec.specs.Types.phase
use Rattle.domain_spec.specs.Types.reason
use Rattle.domain_spec.specs.Types.reply
use Rattle.domain_spec.specs.Types.run
use Rattle.domain_spec.specs.Types.state
use Rattle.domain_spec.specs.Types.told
use Rattle.domain_spec.specs.Types.value
use Rattle.domain_spec.specs.declared.step.PhaseStep.{PhaseStep}
use Rattle.domain_spec.specs.Asks.{first_value}
use Rattle.domain_spec.specs.PhaseAsks.{copied_bytes, resumes}
use Rattle.domain_spec.specs.Reading.{with_run}
use Rattle.domain_spec.specs.Refusals.{aborted}
use Rattle.domain_spec.specs.CallResult.{ended, tell_listeners}
use Rattle.domain_spec.specs.Snapshots.{snapshot_name, with_snapshot}
use Rattle.domain_spec.specs.Migration.{migration_done}
use Rattle.domain_spec.specs.CopyResult.{goes_on, over, run_as, start_value, current_after, load_done, copy_done, poll_step}

-- the domain as its guest goes on, where it is to
abbrev pub with_guest_resumed : Domain → Live → Op → Domain
with_guest_resumed d l op = if resumes l op then with_run d l run.Running else d

-- listeners are told that the guest goes on, where it does
abbrev pub resume_events : Live → Op → List Transition
resume_events l op = tell_listeners (resumes l op) told.RESUMED_UNPAUSED

-- a new snapshot has the current one as its parent, and becomes the current one
abbrev pub snapshot_taken : Domain → SnapInfo → Option RunState → DomainDef → List ℕ → Domain
snapshot_taken d info ran def saved = record d {
  snaps = with_snapshot d.snaps (record {
    name = snapshot_name d info;
    description = unwrap_or info.description [];
    parent = d.current;
    run = ran;
    def = def;
    saved = saved;
  });
  current = Some (snapshot_name d info);
}

-- a snapshot of a guest is taken
abbrev pub live_taken : Domain → Live → Op → SnapInfo → Option AnswerValue → PhaseStep
live_taken d l op info v =
    over (state.Held (snapshot_taken (with_guest_resumed d l op) info (Some (run_as op.was_running)) l.def (copied_bytes v)))
    (resume_events l op) (reply.Ok (value.Name (snapshot_name d info)))

-- a copy was taken: a save quits next, a snapshot is added, a dump is over
abbrev pub take_done : Domain → Live → Op → Call → List Answer → PhaseStep
take_done d l op (call.Save name) answers = goes_on d op phase.Quit []
take_done d l op (call.Snapshot info) answers = live_taken d l op info (first_value answers)
take_done d l op c answers = over (state.Held (with_guest_resumed d l op)) (resume_events l op) (reply.Ok value.Nothing)

-- a guest that was saved is gone, and so is one whose place a snapshot without state takes
abbrev pub quit_done : Domain → Live → Call → PhaseStep
quit_done d l (call.Save name) = over (ended d l reason.Saved) (told.STOPPED_SAVED ∷ []) (reply.Ok value.Nothing)
quit_done d l c = over (ended (record d { current = current_after d c }) l reason.FromSnapshot) (told.STOPPED_FROM_SNAPSHOT ∷ []) (reply.Ok value.Nothing)

-- the refusal that led to the cancel
abbrev pub led_to : Op → Reply
led_to op = reply.No (unwrap_or op.refusal aborted)

-- a copy was given up, and the guest goes on where it stood still for it
abbrev pub cancel_done : Domain → Live → Op → PhaseStep
cancel_done d l op = over (state.Held (with_guest_resumed d l op)) (resume_events l op) (led_to op)

-- a new guest runs
abbrev pub run_done : Domain → Live → Call → PhaseStep
run_done d l c = over (state.Held (with_run d l run.Running)) (told.STARTED_BOOTED ∷ []) (reply.Ok (start_value d c))

-- a start lets the guest run, any other loads its state first
abbrev pub after_make : OpKind → Phase
after_make kind.Start = phase.Run
after_make kind.MigrateIn = phase.MigrateLoad
after_make other = phase.Load

-- a phase on a guest, where each answer is Ok
abbrev pub live_phase_done : Domain → Live → Op → Call → List Answer → Phase → PhaseStep
live_phase_done d l op c answers phase.Nothing = over (state.Held d) [] (reply.Ok value.Nothing)
live_phase_done d l op c answers phase.Make = goes_on d op (after_make op.kind) []
live_phase_done d l op c answers phase.Run = run_done d l c
live_phase_done d l op c answers phase.Load = load_done d l op c
live_phase_done d l op c answers phase.Copy = copy_done d l op
live_phase_done d l op c answers phase.Poll = poll_step d op (first_value answers)
live_phase_done d l op c answers phase.Take = take_done d l op c answers
live_phase_done d l op c answers phase.Quit = quit_done d l c
live_phase_done d l op c answers phase.Cancel = cancel_done d l op
live_phase_done d l op c answers other = migration_done d l op c answers (led_to op) other
