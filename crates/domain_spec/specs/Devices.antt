-- The devices of a live guest, each at a slot: first the disks, then the interfaces, in order
-- (libvirt's domain XML: disks are told apart by `target dev`, interfaces by `mac address`).
use Rattle.std.specs.Prelude.{ℕ, ◌+◌, ◌-◌, ◌==◌, ◌++◌, ◌∷◌, [], List, Bool, true, false, not, nat_lt, if◌then◌else◌, map, length, take, drop, remove, find, position, slice_get, bytes_eq, Option, None, Some, unwrap_or}
use Rattle.std.specs.List.{list_any}
use Rattle.virt_types.specs.Mac.{mac_text}
use Rattle.domain_spec.specs.Types.{DeviceDef, DomainDef, Interface, InterfaceSource, InterfaceType, Live, Mac}
use Rattle.domain_spec.specs.Types.device
use Rattle.domain_spec.specs.Types.interface

-- all devices, disks first
abbrev pub devices_of : DomainDef → List DeviceDef
devices_of def = map (λ d. device.Disk d) def.disks ++ map (λ i. device.Interface i) def.interfaces

-- slots from n on, one a device
abbrev pub slots_from : ℕ → List DeviceDef → List ℕ
slots_from n [] = []
slots_from n (d ∷ ds) = n ∷ slots_from (n + 1) ds

-- at a start the devices take the slots 0x02, 0x03 and so on, disks first
abbrev pub slots_at_start : DomainDef → List ℕ
slots_at_start def = slots_from 2 (devices_of def)

-- the slots that a guest has for devices, 0x02 to 0x1f
unfoldable pub all_slots : List ℕ
all_slots =
    2 ∷ 3 ∷ 4 ∷ 5 ∷ 6 ∷ 7 ∷ 8 ∷ 9 ∷ 10 ∷ 11 ∷ 12 ∷ 13 ∷ 14 ∷ 15 ∷ 16
    ∷ 17 ∷ 18 ∷ 19 ∷ 20 ∷ 21 ∷ 22 ∷ 23 ∷ 24 ∷ 25 ∷ 26 ∷ 27 ∷ 28 ∷ 29 ∷ 30 ∷ 31 ∷ []

-- a device has this slot
abbrev pub is_taken : List ℕ → ℕ → Bool
is_taken slots slot = list_any (λ used. used == slot) slots

-- the least slot that no device has
abbrev pub free_slot : List ℕ → Option ℕ
free_slot slots = find (λ slot. not (is_taken slots slot)) all_slots

-- a MAC as a key; empty where there is none
abbrev pub mac_key : Option Mac → List ℕ
mac_key None = []
mac_key (Some mac) = mac_text mac

-- the key of a device: a disk's target, an interface's MAC; empty where it has no MAC
abbrev pub key_of : DeviceDef → List ℕ
key_of (device.Disk d) = d.target.dev
key_of (device.Interface i) = mac_key i.mac

-- two MACs are there and are one
abbrev pub is_same_mac : Option Mac → Option Mac → Bool
is_same_mac (Some a) (Some b) = bytes_eq a.bytes b.bytes
is_same_mac a b = false

-- two devices of one kind with one key; an interface without a MAC is like no other
abbrev pub has_same_key : DeviceDef → DeviceDef → Bool
has_same_key (device.Disk a) (device.Disk b) = bytes_eq a.target.dev b.target.dev
has_same_key (device.Interface a) (device.Interface b) = is_same_mac a.mac b.mac
has_same_key a b = false

-- a slot and a device, where both are there
abbrev pub both : Option ℕ → Option DeviceDef → Option (ℕ × DeviceDef)
both (Some slot) (Some d) = Some (slot, d)
both slot d = None

-- the device at a place, with its slot
abbrev pub placed : List ℕ → List DeviceDef → Option ℕ → Option (ℕ × DeviceDef)
placed slots devices None = None
placed slots devices (Some place) = both (slice_get slots place) (slice_get devices place)

-- the guest's device with the key of this one, and its slot
abbrev pub device_like : Live → DeviceDef → Option (ℕ × DeviceDef)
device_like l wanted = placed l.slots (devices_of l.def) (position (has_same_key wanted) (devices_of l.def))

-- the guest with one more device, after those of its kind
abbrev pub with_device : Live → ℕ → DeviceDef → Live
with_device l slot (device.Disk d) =
    let count = length l.def.disks in
    record l { def = record l.def { disks = l.def.disks ++ d ∷ [] }; slots = take count l.slots ++ slot ∷ drop count l.slots }
with_device l slot (device.Interface i) =
    record l { def = record l.def { interfaces = l.def.interfaces ++ i ∷ [] }; slots = l.slots ++ slot ∷ [] }

-- the definition without the device at this place among all its devices
abbrev pub without_place : DomainDef → ℕ → DomainDef
without_place def place =
    if nat_lt place (length def.disks) then record def { disks = remove def.disks place }
    else record def { interfaces = remove def.interfaces (place - length def.disks) }

-- the guest without the device at this place
abbrev pub without_placed : Live → Option ℕ → Live
without_placed l None = l
without_placed l (Some place) = record l { def = without_place l.def place; slots = remove l.slots place }

-- the guest without the device at this slot
abbrev pub without_slot : Live → ℕ → Live
without_slot l slot = without_placed l (position (λ used. used == slot) l.slots)

-- the network that a source names; empty where it names none
abbrev pub network_in : Option InterfaceSource → List ℕ
network_in None = []
network_in (Some source) = unwrap_or source.network []

-- the network that an interface is joined to, as its definition has it; empty where it has none
abbrev pub network_of : Interface → List ℕ
network_of i = network_in i.source

-- an interface of type network
abbrev pub is_on_network : InterfaceType → Bool
is_on_network interface.Network = true
is_on_network other = false
