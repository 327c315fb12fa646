-- The asks of a call that adds a device or removes one, once its slot is known.
use Rattle.std.specs.Prelude.{ℕ, List, [], ◌∷◌, ◌++◌, Option, None, Some}
use Rattle.domain_spec.specs.Types.{Ask, DeviceDef}
use Rattle.domain_spec.specs.Types.ask
use Rattle.domain_spec.specs.Types.command
use Rattle.domain_spec.specs.Call.{device_lease}

-- the host's side of a device and then the guest's
abbrev pub adding : DeviceDef → ℕ → List Ask
adding d slot = ask.Command (command.AddBackend slot d) ∷ ask.Command (command.AddDevice slot d) ∷ []

-- an address, where the device gets one, and then its two sides
abbrev pub all_adding : DeviceDef → ℕ → List Ask
all_adding d slot = device_lease d ++ adding d slot

-- the guest's side of the device at this slot and then the host's
abbrev pub removing : Option ℕ → List Ask
removing None = []
removing (Some slot) = ask.Command (command.RemoveDevice slot) ∷ ask.Command (command.RemoveBackend slot) ∷ []
