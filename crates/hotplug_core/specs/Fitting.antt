-- What was set aside for a call that adds or removes a device, and when it is enough.
use Rattle.std.specs.Prelude.{◌≡◌, ◌<◌, ℕ, List, [], length, Option, None, Some}
use Rattle.domain_spec.specs.Types.{Call, DeviceDef, DomainDef, Live, State}
use Rattle.domain_spec.specs.Types.call
use Rattle.domain_spec.specs.Types.device
use Rattle.domain_spec.specs.Devices.{mac_key}
use Rattle.domain_spec.specs.Reading.{live_of}
use Rattle.hotplug_core.specs.declared.set_aside.NewDevice.{NewDevice}
use Rattle.hotplug_core.specs.declared.set_aside.Parts.{Parts}
use Rattle.hotplug_core.specs.declared.set_aside.Parts.TheVariants as parts

-- one more device of the kind fits into this room
abbrev pub HasRoomOfKind : DeviceDef → ℕ → ℕ → DomainDef → Type 0
HasRoomOfKind (device.Disk d) disks interfaces def = length def.disks < disks
HasRoomOfKind (device.Interface i) disks interfaces def = length def.interfaces < interfaces

-- the guest with the new device fits into the room that is with it
pub record HasRoom (new : NewDevice) (l : Live) : Type 0 where
  pub devices : HasRoomOfKind new.device new.disks new.interfaces l.def
  pub slots : length l.slots < new.slots

-- where there is a guest, it fits with the new device
abbrev pub HasRoomIn : NewDevice → Option Live → Type 0
HasRoomIn new None = Unit {0}
HasRoomIn new (Some l) = HasRoom new l

-- a new device is this one, with room for it in this guest
pub record IsNew (new : NewDevice) (d : DeviceDef) (live : Option Live) : Type 0 where
  pub device : new.device ≡ d
  pub room : HasRoomIn new live

-- the MAC of an interface as text; empty for a disk
abbrev pub mac_of : DeviceDef → List ℕ
mac_of (device.Disk d) = []
mac_of (device.Interface i) = mac_key i.mac

-- what was set aside is enough for attaching this device in this state
abbrev pub FitsAttaching : Parts → State → DeviceDef → Type 0
FitsAttaching (parts.Attach new texts) s d = IsNew new d (live_of s)
FitsAttaching (parts.Detach mac texts) s d = ⊥

-- what was set aside is enough for detaching the device with this one's key
abbrev pub FitsDetaching : Parts → DeviceDef → Type 0
FitsDetaching (parts.Attach new texts) d = ⊥
FitsDetaching (parts.Detach mac texts) d = mac ≡ mac_of d

-- what was set aside is enough for the call in this state; it stays so where the guest ends
abbrev pub Fits : Parts → State → Call → Type 0
Fits parts s (call.Attach d) = FitsAttaching parts s d
Fits parts s (call.Detach d) = FitsDetaching parts d
Fits parts s other = Unit {0}
