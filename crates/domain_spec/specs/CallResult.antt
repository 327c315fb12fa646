-- What a call leaves whose tests passed and whose answers are all Ok.
use Rattle.std.specs.Prelude.{ℕ, List, [], ◌∷◌, Bool, true, false, option_map, Option, None, Some}
use Rattle.domain_spec.specs.Types.{Answer, Call, Domain, Live, Op, State}
use Rattle.domain_spec.specs.Types.call
use Rattle.domain_spec.specs.Types.state
use Rattle.domain_spec.specs.Types.told
use Rattle.domain_spec.specs.declared.step.CallStep.{CallStep}
use Rattle.domain_spec.specs.Asks.{first_value}
use Rattle.domain_spec.specs.Devices.{device_like, free_slot}
use Rattle.domain_spec.specs.Reading.{unless_gone}
use Rattle.domain_spec.specs.Snapshots.{current_without, without_snapshot}
pub use Rattle.domain_spec.specs.GuestSteps.{attached, defined, destroyed, detached, done, ended, memory_step, new_domain, rebooted, refused, resumed, suspended, tell_listeners, with_live, with_memory, with_vcpus}

-- a call on a guest, where each answer is Ok
abbrev pub live_step : Domain → Live → Call → List Answer → CallStep
live_step d l call.Suspend answers = suspended d l
live_step d l call.Resume answers = resumed d l
live_step d l call.Reboot answers = rebooted d l
live_step d l call.Destroy answers = destroyed d l
live_step d l (call.SetMemory kib) answers = done (with_live d (with_memory l kib)) []
live_step d l (call.SetVcpus n) answers = done (with_live d (with_vcpus l n)) []
live_step d l (call.Attach new) answers = done (with_live d (attached l (free_slot l.slots) new)) []
live_step d l (call.Detach old) answers = done (with_live d (detached l (device_like l old))) []
live_step d l call.MemoryStats answers = memory_step (state.Held d) (first_value answers)
live_step d l other answers = done (state.Held d) []

-- a call on a guest that may not be there
abbrev pub guest_step : Domain → Option Live → Call → List Answer → CallStep
guest_step d None c answers = done (state.Held d) []
guest_step d (Some l) c answers = live_step d l c answers

-- the operation with its abort flag
abbrev pub aborting : Option Op → Option Op
aborting None = None
aborting (Some op) = Some (record op { abort = true })

-- the stored definition is removed, and a domain without a guest is gone
abbrev pub undefined : Domain → CallStep
undefined d = done (unless_gone (record d { stored = None; autostart = false })) (told.UNDEFINED_REMOVED ∷ [])

-- the autostart flag is set
abbrev pub autostart_set : Domain → Bool → CallStep
autostart_set d on = done (state.Held (record d { autostart = on })) []

-- the operation's abort flag is set
abbrev pub abort_asked : Domain → CallStep
abort_asked d = done (state.Held (record d { op = aborting d.op })) []

-- the snapshot is removed, alone or with its children
abbrev pub snapshot_deleted : Domain → List ℕ → Bool → CallStep
snapshot_deleted d name children =
    done (state.Held (record d { snaps = without_snapshot d.snaps name children; current = current_without d.snaps d.current name children })) []

-- how much of a copy may be left when the guest is stopped
abbrev pub with_limit : ℕ → Op → Op
with_limit rest op = record op { limit = rest }

-- the limit of the migration is set
abbrev pub limit_set : Domain → ℕ → CallStep
limit_set d rest = done (state.Held (record d { op = option_map (with_limit rest) d.op })) []

-- a call whose tests passed, where each answer is Ok
abbrev pub held_step : Domain → Call → List Answer → CallStep
held_step d (call.Define def) answers = defined d def
held_step d call.Undefine answers = undefined d
held_step d (call.SetAutostart on) answers = autostart_set d on
held_step d call.Abort answers = abort_asked d
held_step d (call.Limit rest) answers = limit_set d rest
held_step d (call.SnapDelete name children) answers = snapshot_deleted d name children
held_step d c answers = guest_step d d.live c answers

-- a call whose tests passed, where each answer is Ok, also in a vacant cell
abbrev pub step_of : State → Call → List Answer → CallStep
step_of (state.Held d) c answers = held_step d c answers
step_of (state.Vacant boots) (call.Define def) answers = defined (new_domain def boots) def
step_of (state.Vacant boots) c answers = done (state.Vacant boots) []
