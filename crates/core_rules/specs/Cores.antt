-- Which part of the driver serves a call, and a phase of an operation.
use Rattle.std.specs.Prelude.{◌≡◌, Bool, true, false, Option, None, Some, if◌then◌else◌}
use Rattle.domain_spec.specs.Types.{Call, Op, Phase, State}
use Rattle.domain_spec.specs.Types.call
use Rattle.domain_spec.specs.Types.phase
use Rattle.domain_spec.specs.Types.state
use Rattle.domain_spec.specs.declared.open.OpenOperation.{OpenOperation}
use Rattle.domain_spec.specs.Reading.{carries_ended}
use Rattle.core_rules.specs.declared.cores.Core.{Core}
use Rattle.core_rules.specs.declared.cores.Core.TheVariants as core

-- the part that serves a call
abbrev pub core_of_call : Call → Core
core_of_call (call.Attach d) = core.Hotplug
core_of_call (call.Detach d) = core.Hotplug
core_of_call (call.Save name) = core.Save
core_of_call (call.Dump name) = core.Save
core_of_call (call.Restore def running saved) = core.Save
core_of_call call.Abort = core.Save
core_of_call call.Perform = core.Save
core_of_call (call.Limit rest) = core.Save
core_of_call (call.Confirm verdict) = core.Save
core_of_call (call.Prepare def running saved) = core.Save
core_of_call (call.Finish go) = core.Save
core_of_call (call.Snapshot info) = core.Snapshot
core_of_call (call.SnapDelete name children) = core.Snapshot
core_of_call (call.Revert name) = core.Snapshot
core_of_call other = core.Lifecycle

-- a snapshot is to be taken
abbrev pub is_snapshot : Call → Bool
is_snapshot (call.Snapshot info) = true
is_snapshot other = false

-- the part that takes a copy for this call
abbrev pub core_of_take : Call → Core
core_of_take c = if is_snapshot c then core.Snapshot else core.Save

-- the part that serves this phase of the operation that this call began or took up
abbrev pub core_of_phase : Phase → Call → Core
core_of_phase phase.Make c = core.Lifecycle
core_of_phase phase.Run c = core.Lifecycle
core_of_phase phase.Take c = core_of_take c
core_of_phase phase.Nothing c = core.Snapshot
core_of_phase other c = core.Save

-- the part that serves the due phase, where there is an operation
abbrev pub core_on : Option Op → Call → Core
core_on None c = core.Snapshot
core_on (Some op) c = core_of_phase op.phase c

-- the part that serves the phase that is due in this state
abbrev pub core_due : State → Call → Core
core_due (state.Vacant boots) c = core.Snapshot
core_due (state.Held d) c = core_on d.op c

-- the part serves the phase that is due here; where its boot has ended, any part may
abbrev pub Serves : Core → State → OpenOperation → Type 0
Serves part s o = carries_ended s o.boot ≡ false → core_due s o.call ≡ part
