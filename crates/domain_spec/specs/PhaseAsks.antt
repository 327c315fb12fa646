-- What each phase of an operation asks, and what undoes it.
use Rattle.std.specs.Prelude.{ℕ, List, [], ◌∷◌, ◌++◌, flat_map, Bool, not, ◌&&◌, ◌||◌, length, nat_le, Option, None, Some, if◌then◌else◌, option_map}
use Rattle.virt_types.specs.Limits.{most_state_bytes}
use Rattle.domain_spec.specs.Types.{Answer, Ask, Call, Command, Domain, ImageKind, Live, Op, Phase, Snap, AnswerValue}
use Rattle.domain_spec.specs.Types.ask
use Rattle.domain_spec.specs.Types.call
use Rattle.domain_spec.specs.Types.command
use Rattle.domain_spec.specs.Types.image
use Rattle.domain_spec.specs.Types.phase
use Rattle.domain_spec.specs.Types.given
use Rattle.domain_spec.specs.declared.loaded.Loaded.{Loaded}
use Rattle.domain_spec.specs.declared.planned.PlannedAsk.{PlannedAsk}
use Rattle.domain_spec.specs.Asks.{first_value, plain, undone_by}
use Rattle.domain_spec.specs.Call.{lease_of, tell, tell_if}
use Rattle.domain_spec.specs.Reading.{is_held_by_job, is_running}
use Rattle.domain_spec.specs.Snapshots.{snapshot_named, snapshot_ran}

-- the state that a snapshot has
abbrev pub loaded_from : Snap → Loaded
loaded_from snap = record { definition = snap.def; ran = snapshot_ran snap; saved = snap.saved }

-- what an operation loads: the image, or the snapshot's state
abbrev pub loaded_of : Domain → Call → Option Loaded
loaded_of d (call.Restore def running saved) = Some (record { definition = def; ran = running; saved = saved })
loaded_of d (call.Prepare def running saved) = Some (record { definition = def; ran = running; saved = saved })
loaded_of d (call.Revert name) = option_map loaded_from (snapshot_named d.snaps name)
loaded_of d other = None

-- a guest in the boot that it has is stopped first
abbrev pub load_asks : Live → Op → Option Loaded → List Ask
load_asks l op None = []
load_asks l op (Some loaded) =
    tell_if (not op.new_boot && is_running l.run) command.Stop ++ tell (command.LoadState loaded.saved) ++ tell_if loaded.ran command.Cont

-- 64 polls in a row saw no less left than the poll before
abbrev pub is_stalled : Op → Bool
is_stalled op = nat_le 64 op.still

-- before each poll the operation may be given up
abbrev pub is_given_up : Op → Bool
is_given_up op = op.abort || is_stalled op

-- the guest ran before, and stands still since the operation copies its state
abbrev pub resumes : Live → Op → Bool
resumes l op = op.was_running && is_held_by_job l.run

-- the bytes of a copy; more bytes than a state may have, or none, are no state
abbrev pub copied_bytes : Option AnswerValue → List ℕ
copied_bytes (Some (given.Bytes bytes)) = if nat_le (length bytes) most_state_bytes then bytes else []
copied_bytes other = []

-- the copy is written under this name
abbrev pub write_image : List ℕ → ImageKind → Live → Op → List Answer → List Ask
write_image name k l op answers = ask.WriteImage name k op.was_running l.def (copied_bytes (first_value answers)) ∷ []

-- a save and a dump write an image; a dump and a snapshot let the guest go on
abbrev pub take_asks : Live → Op → Call → List Answer → List Ask
take_asks l op (call.Save name) answers = tell command.CopyTake ++ write_image name image.Save l op answers
take_asks l op (call.Dump name) answers =
    tell command.CopyTake ++ write_image name image.Dump l op answers ++ tell_if (resumes l op) command.Cont
take_asks l op c answers = tell command.CopyTake ++ tell_if (resumes l op) command.Cont

-- each interface of type network gets an address, and then the guest is made
abbrev pub make_asks : Live → List Ask
make_asks l = flat_map lease_of l.def.interfaces ++ ask.Make l.def l.boot ∷ []

-- two commands, one after the other
abbrev pub two : Command → Command → List Ask
two first second = tell first ++ tell second

-- a guest that runs is stopped, and its copy is begun
abbrev pub copy_asks : Live → List Ask
copy_asks l = tell_if (is_running l.run) command.Stop ++ tell command.CopyBegin

-- the copy is given up, and a guest that stood still for it goes on
abbrev pub cancel_asks : Live → Op → List Ask
cancel_asks l op = tell command.CopyCancel ++ tell_if (resumes l op) command.Cont

-- a guest that comes from another host gets its state, and stands still
abbrev pub migrate_load_asks : Option Loaded → List Ask
migrate_load_asks None = []
migrate_load_asks (Some loaded) = tell (command.LoadState loaded.saved)

-- what a phase of a migration asks, but for the take
abbrev pub migration_asks : Domain → Op → Call → Phase → List Ask
migration_asks d op c phase.MigrateCopy = tell command.CopyBegin
migration_asks d op c phase.MigrateCancel = tell command.CopyCancel
migration_asks d op c phase.MigrateLoad = migrate_load_asks (loaded_of d c)
migration_asks d op c phase.MigrateQuit = tell command.Quit
migration_asks d op c phase.MigrateBack = tell_if op.was_running command.Cont
migration_asks d op c phase.MigrateRun = tell_if op.was_running command.Cont
migration_asks d op c phase.MigrateDrop = tell command.Quit
migration_asks d op c other = []

-- what a phase asks of a guest, where each answer is Ok
abbrev pub live_phase_asks : Domain → Live → Op → Call → List Answer → Phase → List Ask
live_phase_asks d l op c answers phase.Nothing = []
live_phase_asks d l op c answers phase.Make = make_asks l
live_phase_asks d l op c answers phase.Run = two command.QueryStatus command.Cont
live_phase_asks d l op c answers phase.Load = load_asks l op (loaded_of d c)
live_phase_asks d l op c answers phase.Copy = copy_asks l
live_phase_asks d l op c answers phase.Poll = tell_if (not (is_given_up op)) command.CopyPoll
live_phase_asks d l op c answers phase.Take = take_asks l op c answers
live_phase_asks d l op c answers phase.Quit = tell command.Quit
live_phase_asks d l op c answers phase.Cancel = cancel_asks l op
live_phase_asks d l op c answers other = migration_asks d op c other

-- what undoes a phase where one of its asks was refused: a new boot is ended, and a guest that ran
-- goes on
abbrev pub live_phase_undo : Live → Op → Phase → List Ask
live_phase_undo l op phase.Run = tell command.Quit
live_phase_undo l op phase.Load = if op.new_boot then tell command.Quit else tell_if (is_running l.run) command.Cont
live_phase_undo l op phase.Copy = tell_if (is_running l.run) command.Cont
live_phase_undo l op phase.MigrateLoad = tell command.Quit
live_phase_undo l op other = []

-- a guest that is to leave is stopped, and goes on where its state can't be taken
abbrev pub migrate_take_plan : Live → List PlannedAsk
migrate_take_plan l =
    plain (tell_if (is_running l.run) command.Stop) ++ undone_by (tell_if (is_running l.run) command.Cont) (tell command.CopyTake)

-- what a phase asks of a guest, with what undoes it
abbrev pub live_phase_plan : Domain → Live → Op → Call → List Answer → Phase → List PlannedAsk
live_phase_plan d l op c answers phase.MigrateTake = migrate_take_plan l
live_phase_plan d l op c answers p = undone_by (live_phase_undo l op p) (live_phase_asks d l op c answers p)

-- an operation on no guest sends no commands
abbrev pub phase_plan : Domain → Option Live → Op → Call → List Answer → List PlannedAsk
phase_plan d None op c answers = []
phase_plan d (Some l) op c answers = live_phase_plan d l op c answers op.phase
