-- The end of a boot, and what a guest does by itself (QEMU's events of the same names).
use Rattle.std.specs.Prelude.{List, [], ◌∷◌, Bool, true, not, ◌&&◌, Option, None, Some, if◌then◌else◌}
use Rattle.domain_spec.specs.Types.{Domain, EndReason, GuestEvent, Live, RunState, State, Transition}
use Rattle.domain_spec.specs.Types.cause
use Rattle.domain_spec.specs.Types.guest
use Rattle.domain_spec.specs.Types.reason
use Rattle.domain_spec.specs.Types.run
use Rattle.domain_spec.specs.Types.state
use Rattle.domain_spec.specs.Types.told
use Rattle.domain_spec.specs.Devices.{without_slot}
use Rattle.domain_spec.specs.Reading.{is_crashed, is_moved, is_paused, is_running, with_run}
use Rattle.domain_spec.specs.CallResult.{ended, tell_listeners, with_live}

-- a guest is gone, by what ended it
abbrev pub exit_event : EndReason → Transition
exit_event reason.Shutdown = told.STOPPED_SHUTDOWN
exit_event reason.Killed = told.STOPPED_DESTROYED
exit_event reason.Crashed = told.STOPPED_CRASHED
exit_event other = told.STOPPED_FAILED

-- what listeners are told of a boot's end
abbrev pub exit_transitions : EndReason → List Transition
exit_transitions why = exit_event why ∷ []

-- the domain where its live boot, if there is one, has ended so
abbrev pub exit_held : Domain → Option Live → EndReason → State
exit_held d None why = state.Held d
exit_held d (Some l) why = ended d l why

-- the state where the live boot has ended so
abbrev pub exit_state : State → EndReason → State
exit_state (state.Vacant boots) why = state.Vacant boots
exit_state (state.Held d) why = exit_held d d.live why

-- the guest in this state, where that is wanted
abbrev pub run_if : Domain → Live → Bool → RunState → State
run_if d l wanted r = if wanted then state.Held (with_run d l r) else state.Held d

-- a guest that goes on by itself is paused, and not between two hosts
abbrev pub can_resume : RunState → Bool
can_resume r = is_paused r && not (is_moved r)

-- what a guest's event makes of the domain
abbrev pub event_live : Domain → Live → GuestEvent → State
event_live d l guest.Stop = run_if d l (is_running l.run) (run.Paused cause.User)
event_live d l guest.Resume = run_if d l (can_resume l.run) run.Running
event_live d l guest.Panic = run_if d l true run.Crashed
event_live d l (guest.DeviceDeleted slot) = with_live d (without_slot l slot)
event_live d l other = state.Held d

-- what listeners are told of a guest's event
abbrev pub event_told : Live → GuestEvent → List Transition
event_told l guest.Shutdown = told.SHUTDOWN_FINISHED ∷ []
event_told l guest.Stop = tell_listeners (is_running l.run) told.SUSPENDED_PAUSED
event_told l guest.Resume = tell_listeners (can_resume l.run) told.RESUMED_UNPAUSED
event_told l guest.Panic = tell_listeners (not (is_crashed l.run)) told.CRASHED_PANICKED
event_told l other = []

-- the domain after a guest's event; nothing happens without a guest
abbrev pub event_held : Domain → Option Live → GuestEvent → State
event_held d None e = state.Held d
event_held d (Some l) e = event_live d l e

-- the state after a guest's event
abbrev pub event_state : State → GuestEvent → State
event_state (state.Vacant boots) e = state.Vacant boots
event_state (state.Held d) e = event_held d d.live e

-- what listeners are told, where there is a guest
abbrev pub told_in : Option Live → GuestEvent → List Transition
told_in None e = []
told_in (Some l) e = event_told l e

-- what listeners are told of a guest's event in this state
abbrev pub event_transitions : State → GuestEvent → List Transition
event_transitions (state.Vacant boots) e = []
event_transitions (state.Held d) e = told_in d.live e
