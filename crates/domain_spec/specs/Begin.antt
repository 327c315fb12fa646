-- How an operation begins (an asynchronous job of libvirt's THREADS.txt): where its call's tests
-- passed, in the turn that judged them.
use Rattle.std.specs.Prelude.{ℕ, ◌+◌, Bool, true, false, is_some, option_map, Option, None, Some, if◌then◌else◌, unwrap_or}
use Rattle.domain_spec.specs.Types.{Call, Cause, Domain, DomainDef, Live, Op, OpKind, Phase, Snap, State, Who}
use Rattle.domain_spec.specs.Types.call
use Rattle.domain_spec.specs.Types.cause
use Rattle.domain_spec.specs.Types.kind
use Rattle.domain_spec.specs.Types.phase
use Rattle.domain_spec.specs.Types.run
use Rattle.domain_spec.specs.Types.state
use Rattle.domain_spec.specs.Call.{begins, phase_taken_up}
use Rattle.domain_spec.specs.Devices.{slots_at_start}
use Rattle.domain_spec.specs.Reading.{boot_in}
use Rattle.domain_spec.specs.CallResult.{new_domain}
use Rattle.domain_spec.specs.Snapshots.{has_state, snapshot_name, snapshot_named}
use Rattle.domain_spec.specs.Tests.{state_kept}

-- a snapshot's definition, where it has a guest's state
abbrev pub definition_with_state : Option Snap → Option DomainDef
definition_with_state None = None
definition_with_state (Some snap) = if has_state snap then Some snap.def else None

-- an active domain goes back to a snapshot in the boot that it has
abbrev pub revert_definition : Option Live → Option Snap → Option DomainDef
revert_definition None snap = definition_with_state snap
revert_definition (Some l) snap = None

-- the definition of the new boot that the operation makes: the stored, the given, the image's or
-- the snapshot's one; none where it makes no boot
abbrev pub boot_definition : Domain → Call → Option DomainDef
boot_definition d call.Start = d.stored
boot_definition d (call.Create def) = Some def
boot_definition d (call.Restore def running saved) = Some def
boot_definition d (call.Prepare def running saved) = Some def
boot_definition d (call.Revert name) = revert_definition d.live (snapshot_named d.snaps name)
boot_definition d other = None

-- active with state: load; active without: quit; inactive with state: make, then load; inactive
-- without: no phase
abbrev pub revert_phase : Bool → Bool → Phase
revert_phase true true = phase.Load
revert_phase true false = phase.Quit
revert_phase false true = phase.Make
revert_phase false false = phase.Nothing

-- the phase that an operation begins with
abbrev pub first_phase : Domain → Call → Phase
first_phase d (call.Save name) = phase.Copy
first_phase d (call.Dump name) = phase.Copy
first_phase d call.Perform = phase.MigrateCopy
first_phase d (call.Snapshot info) = if is_some d.live then phase.Copy else phase.Take
first_phase d (call.Revert name) = revert_phase (is_some d.live) (state_kept (snapshot_named d.snaps name))
first_phase d other = phase.Make

-- a new operation, before its first phase
abbrev pub new_op : OpKind → Who → Option ℕ → Bool → Bool → Phase → Op
new_op k who boot new_boot ran first =
    record { kind = k; who = who; boot = boot; new_boot = new_boot; phase = first; was_running = ran; abort = false; still = 0; remaining = None; refusal = None; limit = 0; rests = false }

-- a guest that comes from another host is between the two
abbrev pub cause_at_start : OpKind → Cause
cause_at_start kind.MigrateIn = cause.Moved
cause_at_start other = cause.Starting

-- the live part of a new boot: it stands still until the operation lets it run
abbrev pub new_live : OpKind → DomainDef → ℕ → Live
new_live k def boot = record { boot = boot; run = run.Paused (cause_at_start k); def = def; slots = slots_at_start def }

-- whether a guest that comes from another host ran there
abbrev pub ran_there : Call → Bool
ran_there (call.Prepare def running saved) = running
ran_there other = false

-- the domain with its new operation: on the guest that it has, or on a new boot of this definition
abbrev pub begun_with : Domain → OpKind → Who → Bool → Phase → Option DomainDef → Domain
begun_with d k who ran first None = record d { op = Some (new_op k who (boot_in d.live) false ran first) }
begun_with d k who ran first (Some def) = record d {
  live = Some (new_live k def (d.boots + 1));
  boots = d.boots + 1;
  op = Some (new_op k who (Some (d.boots + 1)) true ran first);
}

-- the domain as its operation has begun
abbrev pub begun : Domain → Who → Call → Domain
begun d who c = begun_with d (unwrap_or (begins c) kind.Start) who (ran_there c) (first_phase d c) (boot_definition d c)

-- the state as the call's operation has begun; a vacant cell gets a domain without a stored
-- definition
abbrev pub begin_state : State → Who → Call → State
begin_state (state.Held d) who c = state.Held (begun d who c)
begin_state (state.Vacant boots) who (call.Create def) = state.Held (begun (new_domain def boots) who (call.Create def))
begin_state (state.Vacant boots) who (call.Restore def running saved) =
    state.Held (begun (new_domain def boots) who (call.Restore def running saved))
begin_state (state.Vacant boots) who (call.Prepare def running saved) =
    state.Held (begun (new_domain def boots) who (call.Prepare def running saved))
begin_state (state.Vacant boots) who c = state.Vacant boots

-- the call as its operation keeps it: a snapshot without a name gets one where its operation begins
abbrev pub named_call : State → Call → Call
named_call (state.Held d) (call.Snapshot info) = call.Snapshot (record info { name = Some (snapshot_name d info) })
named_call s c = c

-- the operation as this call has taken it up
abbrev pub op_taken_up : Who → Call → Op → Op
op_taken_up who c op = record op { who = who; phase = phase_taken_up c; rests = false }

-- the state where this call has taken up the operation that rested
abbrev pub taken_up_state : State → Who → Call → State
taken_up_state (state.Vacant boots) who c = state.Vacant boots
taken_up_state (state.Held d) who c = state.Held (record d { op = option_map (op_taken_up who c) d.op })

-- the first phase of the operation that has begun in a state
abbrev pub due_in : Option Op → Phase
due_in None = phase.Nothing
due_in (Some op) = op.phase

-- the first phase of the operation that has begun in this state
abbrev pub due_phase : State → Phase
due_phase (state.Vacant boots) = phase.Nothing
due_phase (state.Held d) = due_in d.op
