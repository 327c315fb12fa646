-- The calls on a domain: which job each takes, and what it asks of the guest or of the store.
use Rattle.std.specs.Prelude.{List, [], ◌∷◌, Bool, true, false, Option, None, Some, unsigned_abs}
use Rattle.domain_spec.specs.Types.{Ask, Call, Domain, DomainDef, Job, Live, OpKind, Phase, State}
use Rattle.domain_spec.specs.Types.ask
use Rattle.domain_spec.specs.Types.call
use Rattle.domain_spec.specs.Types.command
use Rattle.domain_spec.specs.Types.job
use Rattle.domain_spec.specs.Types.kind
use Rattle.domain_spec.specs.Types.phase
use Rattle.domain_spec.specs.Types.state
use Rattle.domain_spec.specs.declared.planned.PlannedAsk.{PlannedAsk}
use Rattle.domain_spec.specs.Asks.{plain}
use Rattle.domain_spec.specs.Reading.{is_running, is_paused}
use Rattle.domain_spec.specs.Devices.{device_like, free_slot}
pub use Rattle.domain_spec.specs.Plans.{attach_plan, detach_plan, device_lease, lease_for, lease_if, lease_of, tell, tell_if}

-- the normal job that each call takes; a call that begins an operation takes Modify
abbrev pub job_of : Call → Job
job_of call.Suspend = job.Suspend
job_of call.Destroy = job.Destroy
job_of call.MemoryStats = job.Query
job_of (call.Kick n) = job.Query
job_of call.Abort = job.Abort
job_of (call.Limit rest) = job.MigrationOp
job_of (call.Confirm verdict) = job.MigrationOp
job_of (call.Finish go) = job.MigrationOp
job_of other = job.Modify

-- the operation that a call begins
abbrev pub begins : Call → Option OpKind
begins call.Start = Some kind.Start
begins (call.Create def) = Some kind.Start
begins (call.Restore def running saved) = Some kind.Restore
begins (call.Save name) = Some kind.Save
begins (call.Dump name) = Some kind.Dump
begins (call.Snapshot info) = Some kind.Snapshot
begins (call.Revert name) = Some kind.Revert
begins call.Perform = Some kind.MigrateOut
begins (call.Prepare def running saved) = Some kind.MigrateIn
begins other = None

-- the kind of operation that a call takes up where one rests
abbrev pub takes_up : Call → Option OpKind
takes_up (call.Confirm verdict) = Some kind.MigrateOut
takes_up (call.Finish go) = Some kind.MigrateIn
takes_up other = None

-- the kind of operation that a call begins or takes up
abbrev pub kind_of_call : Call → Option OpKind
kind_of_call (call.Confirm verdict) = Some kind.MigrateOut
kind_of_call (call.Finish go) = Some kind.MigrateIn
kind_of_call other = begins other

-- the phase that is due where a call has taken an operation up
abbrev pub phase_taken_up : Call → Phase
phase_taken_up (call.Confirm true) = phase.MigrateQuit
phase_taken_up (call.Confirm false) = phase.MigrateBack
phase_taken_up (call.Finish true) = phase.MigrateRun
phase_taken_up (call.Finish false) = phase.MigrateDrop
phase_taken_up other = phase.Nothing

-- calls on the stored definition, which go on where the boot that they carry has ended
abbrev pub is_on_stored : Call → Bool
is_on_stored (call.Define def) = true
is_on_stored call.Undefine = true
is_on_stored (call.SetAutostart on) = true
is_on_stored other = false

-- the one command of a call on a live guest
abbrev pub command_of : Live → Call → List Ask
command_of l call.Suspend = tell_if (is_running l.run) command.Stop
command_of l call.Resume = tell_if (is_paused l.run) command.Cont
command_of l call.Shutdown = tell command.Powerdown
command_of l call.Reboot = tell command.Reset
command_of l call.Destroy = tell command.Quit
command_of l (call.SetMemory kib) = tell (command.SetMemory kib)
command_of l (call.SetVcpus n) = tell (command.SetVcpus n)
command_of l call.MemoryStats = tell command.QueryMemory
command_of l (call.Kick n) = tell (command.Kick (unsigned_abs n))
command_of l other = []

-- what a call on a live guest asks
abbrev pub live_plan : Live → Call → List PlannedAsk
live_plan l (call.Attach d) = attach_plan d (free_slot l.slots)
live_plan l (call.Detach d) = detach_plan (device_like l d)
live_plan l c = plain (command_of l c)

-- without a guest nothing is asked
abbrev pub guest_plan : Option Live → Call → List PlannedAsk
guest_plan None c = []
guest_plan (Some l) c = live_plan l c

-- the stored definition is put again, with this autostart flag
abbrev pub put_plan : Option DomainDef → Bool → List PlannedAsk
put_plan None autostart = []
put_plan (Some def) autostart = plain (ask.Put def autostart ∷ [])

-- what a call asks in a cell with a domain
abbrev pub held_plan : Domain → Call → List PlannedAsk
held_plan d (call.Define def) = plain (ask.Put def d.autostart ∷ [])
held_plan d call.Undefine = plain (ask.Drop d.uuid ∷ [])
held_plan d (call.SetAutostart on) = put_plan d.stored on
held_plan d c = guest_plan d.live c

-- what a call asks whose tests passed, with what undoes it
abbrev pub plan_of : State → Call → List PlannedAsk
plan_of (state.Held d) c = held_plan d c
plan_of (state.Vacant boots) (call.Define def) = plain (ask.Put def false ∷ [])
plan_of (state.Vacant boots) c = []
