-- What is read of a domain's cell (after libvirt's virDomainObj: a stored and a live definition,
-- the state of the guest, the number of its boot).
use Rattle.std.specs.Prelude.{ℕ, ◌==◌, Bool, true, false, not, Option, None, Some, min, ℤ, pos, negsuc}
use Rattle.domain_spec.specs.Types.{State, Domain, DomainDef, DomainRef, DomainState, Live, RunState}
use Rattle.domain_spec.specs.Types.state
use Rattle.domain_spec.specs.Types.run
use Rattle.domain_spec.specs.Types.cause
use Rattle.domain_spec.specs.Types.wire

-- the live part: the guest of now
abbrev pub live_of : State → Option Live
live_of (state.Vacant boots) = None
live_of (state.Held d) = d.live

-- the number of a guest's boot
abbrev pub boot_in : Option Live → Option ℕ
boot_in None = None
boot_in (Some l) = Some l.boot

-- the boot that is live
abbrev pub live_boot : State → Option ℕ
live_boot s = boot_in (live_of s)

-- this boot is the guest's
abbrev pub is_boot_in : Option Live → ℕ → Bool
is_boot_in None boot = false
is_boot_in (Some l) boot = l.boot == boot

-- this boot is live
abbrev pub is_live : State → ℕ → Bool
is_live s boot = is_boot_in (live_of s) boot

-- who carries this boot carries one that is not live; who carries none does not
abbrev pub carries_ended : State → Option ℕ → Bool
carries_ended s None = false
carries_ended s (Some boot) = not (is_live s boot)

-- how many boots the cell has had, through all its domains
abbrev pub boots_of : State → ℕ
boots_of (state.Vacant boots) = boots
boots_of (state.Held d) = d.boots

-- vacant, where there is neither a live nor a stored definition
abbrev pub unless_gone_by : Domain → Option Live → Option DomainDef → State
unless_gone_by d None None = state.Vacant d.boots
unless_gone_by d live stored = state.Held d

-- a domain that has neither a live nor a stored definition is gone, and its snapshots with it; the
-- number of boots stays with the cell
abbrev pub unless_gone : Domain → State
unless_gone d = unless_gone_by d d.live d.stored

-- the guest runs
abbrev pub is_running : RunState → Bool
is_running run.Running = true
is_running other = false

-- the guest is paused, whatever by
abbrev pub is_paused : RunState → Bool
is_paused (run.Paused why) = true
is_paused other = false

-- it stands still since an operation copies its state
abbrev pub is_held_by_job : RunState → Bool
is_held_by_job (run.Paused cause.Job) = true
is_held_by_job other = false

-- it stands still between two hosts
abbrev pub is_moved : RunState → Bool
is_moved (run.Paused cause.Moved) = true
is_moved other = false

-- the guest crashed
abbrev pub is_crashed : RunState → Bool
is_crashed run.Crashed = true
is_crashed other = false

-- there is a guest, and it crashed
abbrev pub has_crashed : Option Live → Bool
has_crashed None = false
has_crashed (Some l) = is_crashed l.run

-- there is a guest, and it is between two hosts
abbrev pub has_moved : Option Live → Bool
has_moved None = false
has_moved (Some l) = is_moved l.run

-- the domain with its guest in this state
abbrev pub with_run : Domain → Live → RunState → Domain
with_run d l r = record d { live = Some (record l { run = r }) }

-- the state of a guest as the wire has it
abbrev pub state_running : RunState → DomainState
state_running run.Running = wire.Running
state_running (run.Paused why) = wire.Paused
state_running run.Crashed = wire.Crashed

-- the state of a domain as the wire has it (libvirt's virDomainState)
abbrev pub state_in : Option Live → DomainState
state_in None = wire.ShutOff
state_in (Some l) = state_running l.run

-- the id on the wire: the live boot's number as far as an int goes, and -1 where none is live
abbrev pub id_of : Option Live → ℤ
id_of None = negsuc 0
id_of (Some l) = pos (min l.boot 2147483647)

-- how replies name a domain
abbrev pub reference_of : Domain → DomainRef
reference_of d = record { name = d.name; uuid = d.uuid; id = id_of d.live }
