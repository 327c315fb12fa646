-- What definitions satisfy that reading can give.
use Rattle.std.specs.Prelude.{◌≡◌, ℕ, ◌+◌, ◌^◌, ◌<◌, ◌≤◌, List, [], ◌∷◌, length, map, chars, IsUtf8, false, Option, Some, None, ◌==◌}
use Rattle.std.specs.List.{AllByRecursion}
use Rattle.std.specs.Char.{to_ascii_lowercase}
use Rattle.types_base.specs.Name.{bad_place}
use Rattle.types_base.specs.declared.device_def.DeviceDef.{DeviceDef}
use Rattle.types_base.specs.declared.device_def.DeviceDef.TheVariants as device
use Rattle.types_base.specs.declared.device_def.Disk.{Disk}
use Rattle.types_base.specs.declared.device_def.Interface.{Interface}
use Rattle.types_base.specs.declared.domain_def.DomainDef.{DomainDef}
use Rattle.types_base.specs.declared.mac.Mac.{Mac}
use Rattle.text_spec.specs.DomainText.{most_devices}
use Rattle.text_spec.specs.GuestScript.{entries_of}
use Rattle.types_base.specs.Mac.{mac_text}
use Rattle.text_spec.specs.Tag.{is_among}
use Rattle.text_spec.specs.Writable.{AreChars}

abbrev pub AreBytes : List ℕ → Type 0
AreBytes bytes = AllByRecursion (λ b. b < 256) bytes

-- the value of an attribute: characters that a text may hold
pub record IsValue (value : List ℕ) : Type 0 where
  pub utf8 : IsUtf8 value
  pub value_chars : AreChars (chars value)

-- ---- devices
-- an address of six bytes
pub record IsMac (mac : Mac) : Type 0 where
  pub six : length mac.bytes ≡ 6
  pub bytes : AreBytes mac.bytes

abbrev pub IsMacOf : Option Mac → Type 0
IsMacOf None = Unit {0}
IsMacOf (Some mac) = IsMac mac

-- a disk has a key
abbrev pub IsDisk : Disk → Type 0
IsDisk d = (length d.target.dev == 0) ≡ false

abbrev pub IsInterface : Interface → Type 0
IsInterface i = IsMacOf i.mac

-- a device on its own
abbrev pub IsDevice : DeviceDef → Type 0
IsDevice (device.Disk d) = IsDisk d
IsDevice (device.Interface i) = IsInterface i

-- no disk has the key of one before it, or one of these
abbrev pub AreDisksApart : List (List ℕ) → List Disk → Type 0
AreDisksApart keys [] = Unit {0}
AreDisksApart keys (d ∷ ds) = (is_among d.target.dev keys ≡ false) × AreDisksApart (d.target.dev ∷ keys) ds

-- the same of interfaces
abbrev pub mac_key : Mac → List ℕ
mac_key mac = map to_ascii_lowercase (mac_text mac)

abbrev pub IsApart : List (List ℕ) → Option Mac → Type 0
IsApart keys None = Unit {0}
IsApart keys (Some mac) = is_among (mac_key mac) keys ≡ false

abbrev pub with_mac_key : Option Mac → List (List ℕ) → List (List ℕ)
with_mac_key None keys = keys
with_mac_key (Some mac) keys = mac_key mac ∷ keys

abbrev pub AreInterfacesApart : List (List ℕ) → List Interface → Type 0
AreInterfacesApart keys [] = Unit {0}
AreInterfacesApart keys (i ∷ is) = IsApart keys i.mac × AreInterfacesApart (with_mac_key i.mac keys) is

-- ---- domains
abbrev pub IsUuidOf : Option (List ℕ) → Type 0
IsUuidOf None = Unit {0}
IsUuidOf (Some uuid) = (length uuid ≡ 16) × AreBytes uuid

-- from one number to another
abbrev pub IsWithin : ℕ → ℕ → ℕ → Type 0
IsWithin least most n = (least ≤ n) × (n ≤ most)

pub record IsDomain (d : DomainDef) : Type 0 where
  pub name : bad_place d.name ≡ None
  pub uuid : IsUuidOf d.uuid
  pub guest : entries_of d.guest.text ≡ Some d.guest.entries
  pub memory : IsWithin 1 (2 ^ 40) d.memory
  pub current_memory : IsWithin 1 d.memory d.current_memory
  pub vcpus : IsWithin 1 255 d.vcpus
  pub current_vcpus : IsWithin 1 d.vcpus d.current_vcpus
  pub disks : AllByRecursion IsDisk d.disks
  pub disks_apart : AreDisksApart [] d.disks
  pub interfaces : AllByRecursion IsInterface d.interfaces
  pub interfaces_apart : AreInterfacesApart [] d.interfaces
  pub few : length d.disks + length d.interfaces ≤ most_devices
