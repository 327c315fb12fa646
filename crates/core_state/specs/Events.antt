-- What a guest's event makes of the guest, and what listeners are told of it.
use Rattle.std.specs.Prelude.{List, [], ◌∷◌, Option, None, Some, if◌then◌else◌}
use Rattle.domain_spec.specs.Types.{GuestEvent, Live, RunState, Transition}
use Rattle.domain_spec.specs.Types.cause
use Rattle.domain_spec.specs.Types.guest
use Rattle.domain_spec.specs.Types.run
use Rattle.domain_spec.specs.Devices.{without_slot}
use Rattle.domain_spec.specs.Exit.{can_resume}
use Rattle.domain_spec.specs.Reading.{is_running}

-- a list of the one, if there is one
abbrev pub listed : Option Transition → List Transition
listed None = []
listed (Some t) = t ∷ []

-- the guest after its event
abbrev pub followed : Live → GuestEvent → Live
followed l guest.Stop = record l { run = if is_running l.run then run.Paused cause.User else l.run }
followed l guest.Resume = record l { run = if can_resume l.run then run.Running else l.run }
followed l guest.Panic = record l { run = run.Crashed }
followed l (guest.DeviceDeleted slot) = without_slot l slot
followed l other = l
