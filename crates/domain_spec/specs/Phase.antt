-- A whole phase of an operation at one place of a history, by the operation that is open there and
-- with all answers given at once.
use Rattle.std.specs.Prelude.{ℕ, List, [], ◌∷◌, Bool, false, is_some, Option, None, Some, if◌then◌else◌}
use Rattle.domain_spec.specs.Types.{Answer, Ask, Call, Domain, DomainDef, Live, Op, Phase, Refusal, Reply, SnapInfo, State}
use Rattle.domain_spec.specs.Types.call
use Rattle.domain_spec.specs.Types.phase
use Rattle.domain_spec.specs.Types.reason
use Rattle.domain_spec.specs.Types.reply
use Rattle.domain_spec.specs.Types.state
use Rattle.domain_spec.specs.Types.told
use Rattle.domain_spec.specs.Types.value
use Rattle.domain_spec.specs.declared.open.OpenOperation.{OpenOperation}
use Rattle.domain_spec.specs.declared.step.Outcome.{Outcome}
use Rattle.domain_spec.specs.declared.step.Outcome.TheVariants as outcome
use Rattle.domain_spec.specs.declared.step.PhaseStep.{PhaseStep}
use Rattle.domain_spec.specs.declared.planned.PlannedAsk.{PlannedAsk}
use Rattle.domain_spec.specs.Asks.{asks_left, asks_made, first_bad, first_value, is_undone}
use Rattle.domain_spec.specs.CopyResult.{cancels, current_after, over}
use Rattle.domain_spec.specs.Migration.{rests}
use Rattle.domain_spec.specs.Operation.{led_to, live_phase_done, snapshot_taken}
use Rattle.domain_spec.specs.PhaseAsks.{phase_plan}
use Rattle.domain_spec.specs.Reading.{carries_ended}
use Rattle.domain_spec.specs.Refusals.{failure_of, guest_ended, monitor_lost, no_domain}
use Rattle.domain_spec.specs.CallResult.{ended}
use Rattle.domain_spec.specs.Snapshots.{snapshot_name}

-- a snapshot of a domain without a guest is taken of its stored definition, without commands
abbrev pub inactive_taken : Domain → SnapInfo → Option DomainDef → PhaseStep
inactive_taken d info None = over (state.Held d) [] (reply.No no_domain)
inactive_taken d info (Some def) =
    over (state.Held (snapshot_taken d info None def [])) [] (reply.Ok (value.Name (snapshot_name d info)))

-- a snapshot of a domain without a guest
abbrev pub inactive_take_done : Domain → Call → PhaseStep
inactive_take_done d (call.Snapshot info) = inactive_taken d info d.stored
inactive_take_done d other = over (state.Held d) [] (reply.No no_domain)

-- a snapshot without a guest's state becomes the current one
abbrev pub reverted : Domain → Call → PhaseStep
reverted d c = over (state.Held (record d { current = current_after d c })) [] (reply.Ok value.Nothing)

-- a phase without a guest: a snapshot is taken, a snapshot becomes the current one, or an operation
-- that found no memory ends
abbrev pub inactive_phase_done : Domain → Op → Call → Phase → PhaseStep
inactive_phase_done d op c phase.Take = inactive_take_done d c
inactive_phase_done d op c phase.Nothing = reverted d c
inactive_phase_done d op c other = over (state.Held d) [] (led_to op)

-- a new boot that could not be started is gone
abbrev pub start_failed : Domain → Live → Refusal → PhaseStep
start_failed d l r = over (ended d l reason.Failed) (told.STOPPED_FAILED ∷ []) (reply.No r)

-- a phase of a migration that was refused: a new boot is gone, a copy is given up, and one that was
-- taken up rests again with that refusal
abbrev pub migration_refused : Domain → Live → Op → Refusal → Phase → PhaseStep
migration_refused d l op r phase.MigrateLoad = start_failed d l r
migration_refused d l op r phase.MigrateTake = cancels d op r
migration_refused d l op r phase.MigrateCancel = over (state.Held d) [] (led_to op)
migration_refused d l op r phase.MigrateQuit = rests d op [] (reply.No r)
migration_refused d l op r phase.MigrateBack = rests d op [] (reply.No r)
migration_refused d l op r phase.MigrateRun = rests d op [] (reply.No r)
migration_refused d l op r phase.MigrateDrop = rests d op [] (reply.No r)
migration_refused d l op r other = over (state.Held d) [] (reply.No r)

-- a phase on a guest that was refused, or for which the store failed or there was no memory
abbrev pub live_phase_refused : Domain → Live → Op → Refusal → Phase → PhaseStep
live_phase_refused d l op r phase.Nothing = over (state.Held d) [] (reply.No r)
live_phase_refused d l op r phase.Make = start_failed d l r
live_phase_refused d l op r phase.Run = start_failed d l r
live_phase_refused d l op r phase.Load = if op.new_boot then start_failed d l r else over (state.Held d) [] (reply.No r)
live_phase_refused d l op r phase.Copy = over (state.Held d) [] (reply.No r)
live_phase_refused d l op r phase.Poll = cancels d op r
live_phase_refused d l op r phase.Take = cancels d op r
live_phase_refused d l op r phase.Quit = cancels d op r
live_phase_refused d l op r phase.Cancel = over (state.Held d) [] (led_to op)
live_phase_refused d l op r other = migration_refused d l op r other

-- a phase without a guest for which there was no memory
abbrev pub inactive_phase_refused : Domain → Op → Refusal → Phase → PhaseStep
inactive_phase_refused d op r phase.Take = cancels d op r
inactive_phase_refused d op r phase.Cancel = over (state.Held d) [] (led_to op)
inactive_phase_refused d op r other = over (state.Held d) [] (reply.No r)

-- a phase that was refused, with or without a guest
abbrev pub phase_refused : Domain → Option Live → Op → Refusal → PhaseStep
phase_refused d None op r = inactive_phase_refused d op r op.phase
phase_refused d (Some l) op r = live_phase_refused d l op r op.phase

-- a phase where each answer is Ok, with or without a guest
abbrev pub phase_done : Domain → Option Live → Op → Call → List Answer → PhaseStep
phase_done d None op c answers = inactive_phase_done d op c op.phase
phase_done d (Some l) op c answers = live_phase_done d l op c answers op.phase

-- by the first answer that is not Ok; after Lost nothing changes but that the boot's end is marked
abbrev pub answered_phase : Domain → Op → Call → List Answer → Option Answer → PhaseStep
answered_phase d op c answers None = phase_done d d.live op c answers
answered_phase d op c answers (Some bad) =
    if is_undone bad then phase_refused d d.live op (failure_of bad) else over (state.Held d) [] (reply.No monitor_lost)

-- a save whose guest was told to quit has what it wanted
abbrev pub quit_was_done : Call → Outcome → List Answer → Bool
quit_was_done (call.Save name) (outcome.On phase.Quit) answers = is_some (first_value answers)
quit_was_done c o answers = false

-- the operation's boot is not live
abbrev pub ended_reply : OpenOperation → Option ℕ → List Answer → Reply
ended_reply o None answers = reply.No no_domain
ended_reply o (Some boot) answers = if quit_was_done o.call o.outcome answers then reply.Ok value.Nothing else reply.No (guest_ended boot)

-- the due phase, where the domain has an operation
abbrev pub phase_on : Domain → Option Op → Call → List Answer → PhaseStep
phase_on d None c answers = over (state.Held d) [] (reply.No no_domain)
phase_on d (Some op) c answers = answered_phase d op c answers (first_bad answers)

-- the due phase in this state; a vacant cell has none
abbrev pub phase_in : State → Call → List Answer → PhaseStep
phase_in (state.Vacant boots) c answers = over (state.Vacant boots) [] (reply.No no_domain)
phase_in (state.Held d) c answers = phase_on d d.op c answers

-- what the due phase of this operation leaves, where these answers came
abbrev pub phase_of : State → OpenOperation → List Answer → PhaseStep
phase_of s o answers = if carries_ended s o.boot then over s [] (ended_reply o o.boot answers) else phase_in s o.call answers

-- what the due phase asks, where the domain has an operation
abbrev pub plan_on : Domain → Option Op → Call → List Answer → List PlannedAsk
plan_on d None c answers = []
plan_on d (Some op) c answers = phase_plan d d.live op c answers

-- what the due phase asks, with what undoes it; what is written depends on what was taken
abbrev pub plan_in : State → Call → List Answer → List PlannedAsk
plan_in (state.Vacant boots) c answers = []
plan_in (state.Held d) c answers = plan_on d d.op c answers

-- the asks that the due phase makes where these answers come, one an answer
abbrev pub phase_asked : State → OpenOperation → List Answer → List Ask
phase_asked s o answers = if carries_ended s o.boot then [] else asks_made (plan_in s o.call answers) answers

-- the asks of the due phase that are left after these answers
abbrev pub phase_still_asked : State → OpenOperation → List Answer → List Ask
phase_still_asked s o answers = if carries_ended s o.boot then [] else asks_left (plan_in s o.call answers) answers

-- the state where the operation has ended
abbrev pub without_operation : State → State
without_operation (state.Vacant boots) = state.Vacant boots
without_operation (state.Held d) = state.Held (record d { op = None })
