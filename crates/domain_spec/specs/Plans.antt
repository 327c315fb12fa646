-- Pieces of what calls ask.
use Rattle.std.specs.Prelude.{ℕ, List, [], ◌∷◌, ◌++◌, Bool, true, false, Option, None, Some}
use Rattle.domain_spec.specs.Types.{Ask, Command, DeviceDef, Interface, Mac}
use Rattle.domain_spec.specs.Types.ask
use Rattle.domain_spec.specs.Types.command
use Rattle.domain_spec.specs.Types.device
use Rattle.domain_spec.specs.declared.planned.PlannedAsk.{PlannedAsk}
use Rattle.domain_spec.specs.Asks.{plain, undone_by}
use Rattle.domain_spec.specs.Devices.{is_on_network, network_of}

-- one command
abbrev pub tell : Command → List Ask
tell c = ask.Command c ∷ []

-- one command where it is wanted
abbrev pub tell_if : Bool → Command → List Ask
tell_if true c = tell c
tell_if false c = []

-- an address is asked for where the interface has a MAC
abbrev pub lease_for : List ℕ → Option Mac → List Ask
lease_for network None = []
lease_for network (Some mac) = ask.Lease network mac ∷ []

-- an address is asked for where the interface is on a network
abbrev pub lease_if : Bool → Interface → List Ask
lease_if true i = lease_for (network_of i) i.mac
lease_if false i = []

-- an interface of type network gets an address
abbrev pub lease_of : Interface → List Ask
lease_of i = lease_if (is_on_network i.kind) i

-- a disk needs no address
abbrev pub device_lease : DeviceDef → List Ask
device_lease (device.Disk d) = []
device_lease (device.Interface i) = lease_of i

-- the host's side of a device is added first, then the guest's; where that is refused, the host's
-- side is removed again
abbrev pub attach_plan : DeviceDef → Option ℕ → List PlannedAsk
attach_plan d None = []
attach_plan d (Some slot) =
    plain (device_lease d ++ tell (command.AddBackend slot d))
    ++ undone_by (tell (command.RemoveBackend slot)) (tell (command.AddDevice slot d))

-- the guest's side of a device is removed first, then the host's; where that is refused, the guest's
-- side is added again
abbrev pub detach_plan : Option (ℕ × DeviceDef) → List PlannedAsk
detach_plan None = []
detach_plan (Some placed) =
    plain (tell (command.RemoveDevice placed.0))
    ++ undone_by (tell (command.AddDevice placed.0 placed.1)) (tell (command.RemoveBackend placed.0))
