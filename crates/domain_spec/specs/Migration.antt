-- What the phases of a migration leave: of one to another host, and of one from another host.
use Rattle.std.specs.Prelude.{List, [], ◌∷◌, true, Option, Some}
use Rattle.domain_spec.specs.Types.{Answer, AnswerValue, Call, Domain, Live, Op, Phase, Reply, Transition}
use Rattle.domain_spec.specs.Types.cause
use Rattle.domain_spec.specs.Types.phase
use Rattle.domain_spec.specs.Types.reason
use Rattle.domain_spec.specs.Types.reply
use Rattle.domain_spec.specs.Types.run
use Rattle.domain_spec.specs.Types.state
use Rattle.domain_spec.specs.Types.told
use Rattle.domain_spec.specs.Types.value
use Rattle.virt_types.specs.declared.value.MigratedGuest.{MigratedGuest}
use Rattle.domain_spec.specs.declared.step.Outcome.TheVariants as outcome
use Rattle.domain_spec.specs.declared.step.PhaseStep.{PhaseStep}
use Rattle.domain_spec.specs.Asks.{last_value}
use Rattle.domain_spec.specs.CallResult.{ended, tell_listeners}
use Rattle.domain_spec.specs.CopyResult.{goes_on, over, paused_unless, run_as, start_value}
use Rattle.domain_spec.specs.PhaseAsks.{copied_bytes}
use Rattle.domain_spec.specs.Reading.{is_running, with_run}

-- the operation rests until a call takes it up
abbrev pub rests : Domain → Op → List Transition → Reply → PhaseStep
rests d op events r = record {
  state = state.Held (record d { op = Some (record op { phase = phase.Resting; rests = true }) });
  transitions = events;
  outcome = outcome.Rest r;
}

-- a guest that leaves, with its state
abbrev pub leaving : Live → Option AnswerValue → MigratedGuest
leaving l v = record { definition = l.def; running = is_running l.run; state = copied_bytes v }

-- the guest stands still between two hosts, and its caller has what the other host needs
abbrev pub migrate_take_done : Domain → Live → Op → List Answer → PhaseStep
migrate_take_done d l op answers =
    rests (with_run d l (run.Paused cause.Moved)) (record op { was_running = is_running l.run })
    (tell_listeners (is_running l.run) told.SUSPENDED_PAUSED) (reply.Ok (value.MigratedGuest (leaving l (last_value answers))))

-- a guest that left has gone
abbrev pub migrate_quit_done : Domain → Live → PhaseStep
migrate_quit_done d l = over (ended d l reason.Migrated) (told.STOPPED_MIGRATED ∷ []) (reply.Ok value.Nothing)

-- a guest that was to leave goes on here as it was
abbrev pub migrate_back_done : Domain → Live → Op → PhaseStep
migrate_back_done d l op =
    over (state.Held (with_run d l (run_as op.was_running))) (tell_listeners op.was_running told.RESUMED_UNPAUSED) (reply.Ok value.Nothing)

-- a guest that came goes on here as it was
abbrev pub migrate_run_done : Domain → Live → Op → PhaseStep
migrate_run_done d l op =
    over (state.Held (with_run d l (run_as op.was_running))) (told.STARTED_MIGRATED ∷ paused_unless op.was_running) (reply.Ok value.Nothing)

-- a guest that came is given up
abbrev pub migrate_drop_done : Domain → Live → PhaseStep
migrate_drop_done d l = over (ended d l reason.Failed) (told.STOPPED_FAILED ∷ []) (reply.Ok value.Nothing)

-- a phase of a migration, where each answer is Ok
abbrev pub migration_done : Domain → Live → Op → Call → List Answer → Reply → Phase → PhaseStep
migration_done d l op c answers led phase.MigrateCopy = goes_on d op phase.Poll []
migration_done d l op c answers led phase.MigrateTake = migrate_take_done d l op answers
migration_done d l op c answers led phase.MigrateCancel = over (state.Held d) [] led
migration_done d l op c answers led phase.MigrateLoad = rests d op [] (reply.Ok (start_value d c))
migration_done d l op c answers led phase.MigrateQuit = migrate_quit_done d l
migration_done d l op c answers led phase.MigrateBack = migrate_back_done d l op
migration_done d l op c answers led phase.MigrateRun = migrate_run_done d l op
migration_done d l op c answers led phase.MigrateDrop = migrate_drop_done d l
migration_done d l op c answers led other = over (state.Held d) [] (reply.Ok value.Nothing)
