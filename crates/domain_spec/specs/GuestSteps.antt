-- What becomes of a domain and its guest in one step.
use Rattle.std.specs.Prelude.{ℕ, List, [], ◌∷◌, Bool, true, false, replicate, is_some, Option, None, Some, unwrap_or, if◌then◌else◌}
use Rattle.domain_spec.specs.Types.{AnswerValue, DeviceDef, Domain, DomainDef, EndReason, Live, Refusal, State, Transition}
use Rattle.domain_spec.specs.Types.cause
use Rattle.domain_spec.specs.Types.reason
use Rattle.domain_spec.specs.Types.reply
use Rattle.domain_spec.specs.Types.run
use Rattle.domain_spec.specs.Types.state
use Rattle.domain_spec.specs.Types.told
use Rattle.domain_spec.specs.Types.given
use Rattle.domain_spec.specs.Types.value
use Rattle.domain_spec.specs.declared.step.CallStep.{CallStep}
use Rattle.domain_spec.specs.Devices.{with_device, without_slot}
use Rattle.domain_spec.specs.Reading.{is_crashed, is_paused, is_running, reference_of, unless_gone, with_run}
use Rattle.domain_spec.specs.Refusals.{failed}

-- the call is refused: nothing changes, and nobody is told
abbrev pub refused : State → Refusal → CallStep
refused s r = record { state = s; reply = reply.No r; transitions = [] }

-- the call is done, with nothing to be told to its caller
abbrev pub done : State → List Transition → CallStep
done s events = record { state = s; reply = reply.Ok value.Nothing; transitions = events }

-- one transition, where the case is so
abbrev pub tell_listeners : Bool → Transition → List Transition
tell_listeners true t = t ∷ []
tell_listeners false t = []

-- a domain as its first definition makes it, with neither a guest nor snapshots
abbrev pub new_domain : DomainDef → ℕ → Domain
new_domain def boots =
    record { uuid = unwrap_or def.uuid (replicate 16 0); name = def.name; stored = None; live = None; autostart = false; snaps = []; current = None; op = None; boots = boots; last = None }

-- the definition is stored; who defines is told how to name the domain
abbrev pub defined : Domain → DomainDef → CallStep
defined d def = record {
  state = state.Held (record d { stored = Some def });
  reply = reply.Ok (value.Domain (reference_of d));
  transitions = (if is_some d.stored then told.DEFINED_UPDATED else told.DEFINED_ADDED) ∷ [];
}

-- a guest's number of KiB, as QueryMemory answers it; without a number the call failed
abbrev pub memory_step : State → Option AnswerValue → CallStep
memory_step s (Some (given.Number kib)) = record { state = s; reply = reply.Ok (value.Memory kib); transitions = [] }
memory_step s other = refused s (failed 0)

-- the guest with this device at the slot, if one is free
abbrev pub attached : Live → Option ℕ → DeviceDef → Live
attached l None new = l
attached l (Some slot) new = with_device l slot new

-- the guest without this device, if it is there
abbrev pub detached : Live → Option (ℕ × DeviceDef) → Live
detached l None = l
detached l (Some placed) = without_slot l placed.0

-- the domain with its guest changed
abbrev pub with_live : Domain → Live → State
with_live d l = state.Held (record d { live = Some l })

-- the domain without its guest, which ended so
abbrev pub ended : Domain → Live → EndReason → State
ended d l why = unless_gone (record d { live = None; last = Some (l.boot, why) })

-- the guest is paused by its user
abbrev pub suspended : Domain → Live → CallStep
suspended d l = done (state.Held (with_run d l (run.Paused cause.User))) (tell_listeners (is_running l.run) told.SUSPENDED_PAUSED)

-- the guest runs
abbrev pub resumed : Domain → Live → CallStep
resumed d l = done (state.Held (with_run d l run.Running)) (tell_listeners (is_paused l.run) told.RESUMED_UNPAUSED)

-- a guest that crashed runs again
abbrev pub rebooted : Domain → Live → CallStep
rebooted d l =
    done (if is_crashed l.run then state.Held (with_run d l run.Running) else state.Held d)
    (tell_listeners (is_crashed l.run) told.RESUMED_UNPAUSED)

-- the guest was killed
abbrev pub destroyed : Domain → Live → CallStep
destroyed d l = done (ended d l reason.Killed) (told.STOPPED_DESTROYED ∷ [])

-- the guest with so many KiB
abbrev pub with_memory : Live → ℕ → Live
with_memory l kib = record l { def = record l.def { current_memory = kib } }

-- the guest with so many processors
abbrev pub with_vcpus : Live → ℕ → Live
with_vcpus l n = record l { def = record l.def { current_vcpus = n } }
