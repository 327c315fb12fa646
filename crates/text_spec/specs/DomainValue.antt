-- The values of a domain's element that has no fault, with defaults for those that are absent.
use Rattle.std.specs.Prelude.{ℕ, List, [], map, min, Option, unwrap_or, option_and_then, option_map}
use Rattle.std.specs.List.{filter_map}
use Rattle.std.specs.Result.{result_ok}
use Rattle.uuid.specs.Text.{parsed}
use Rattle.types_base.specs.declared.domain_def.BootDevice.{BootDevice}
use Rattle.types_base.specs.declared.domain_def.CharacterDevice.{CharacterDevice}
use Rattle.types_base.specs.declared.domain_def.CrashAction.{CrashAction}
use Rattle.types_base.specs.declared.domain_def.CrashAction.TheVariants as crash
use Rattle.types_base.specs.declared.domain_def.DomainDef.{DomainDef}
use Rattle.types_base.specs.declared.domain_def.DomainType.{DomainType}
use Rattle.types_base.specs.declared.domain_def.DomainType.TheVariants as domain_type
use Rattle.types_base.specs.declared.domain_def.Graphics.{Graphics}
use Rattle.types_base.specs.declared.domain_def.LifecycleAction.{LifecycleAction}
use Rattle.types_base.specs.declared.domain_def.LifecycleAction.TheVariants as action
use Rattle.types_base.specs.declared.domain_def.Memballoon.{Memballoon}
use Rattle.types_base.specs.declared.domain_def.Os.{Os}
use Rattle.types_base.specs.declared.script.Script.{Script}
use Rattle.text_spec.specs.declared.row.Place.{Place}
use Rattle.text_spec.specs.declared.row.Place.TheVariants as place
use Rattle.text_spec.specs.declared.row.Source.TheVariants as source
use Rattle.text_spec.specs.declared.vocabulary.AttributeName.TheVariants as attribute
use Rattle.text_spec.specs.declared.vocabulary.ElementName.{ElementName}
use Rattle.text_spec.specs.declared.vocabulary.ElementName.TheVariants as element
use Rattle.text_spec.specs.Content.{most_vcpus}
use Rattle.text_spec.specs.DeviceText.{disk_of, interface_of}
use Rattle.text_spec.specs.GuestScript.{entries_of, number_within}
use Rattle.text_spec.specs.Look.{attribute_of, elements_at, element_at, text_of, value_at}
use Rattle.text_spec.specs.Tree.{Tree}
use Rattle.text_spec.specs.Units.{kibibytes_of}
use Rattle.text_spec.specs.Words.{domain_type_of, boot_device_of, lifecycle_action_of, crash_action_of}

-- the text of an element of a place
abbrev pub text_at : Place → Tree → Option (List ℕ)
text_at p t = value_at p source.Text t

-- an element in the domain's, and one in its `devices`
abbrev pub own_text : ElementName → Tree → Option (List ℕ)
own_text n t = text_at (place.Child n) t

abbrev pub in_devices : ElementName → Place
in_devices n = place.Inside element.Devices n

-- memory in KiB
abbrev pub memory_in : Tree → Option ℕ
memory_in t = result_ok (kibibytes_of (text_of t) (attribute_of attribute.Unit t))

abbrev pub memory_at : ElementName → Tree → Option ℕ
memory_at n t = option_and_then memory_in (element_at (place.Child n) t)

unfoldable pub memory_of : Tree → ℕ
memory_of t = unwrap_or (memory_at element.Memory t) 1

-- what the guest has: no more than memory, and memory where it is absent
unfoldable pub current_memory_of : Tree → ℕ
current_memory_of t = min (memory_of t) (unwrap_or (memory_at element.CurrentMemory t) (memory_of t))

unfoldable pub vcpus_of : Tree → ℕ
vcpus_of t = unwrap_or (option_and_then (number_within 1 most_vcpus) (value_at (place.Child element.Vcpu) source.Text t)) 1

unfoldable pub current_vcpus_of : Tree → ℕ
current_vcpus_of t =
    unwrap_or
    (option_and_then (number_within 1 (vcpus_of t))
    (value_at (place.Child element.Vcpu) (source.Attribute attribute.Current) t))
    (vcpus_of t)

-- the script of `metadata/guest`; the empty one where it is absent
abbrev pub script_with : List ℕ → Script
script_with text = record { text = text; entries = unwrap_or (entries_of text) [] }

unfoldable pub script_of : Tree → Script
script_of t = script_with (unwrap_or (value_at (place.Inside element.Metadata element.Guest) source.Text t) [])

abbrev pub boot_in : Tree → Option BootDevice
boot_in t = option_and_then boot_device_of (attribute_of attribute.Dev t)

abbrev pub os_type : Place
os_type = place.Inside element.Os element.Type

unfoldable pub os_of : Tree → Os
os_of t = record {
  kind = unwrap_or (text_at os_type t) [];
  arch = value_at os_type (source.Attribute attribute.Arch) t;
  machine = value_at os_type (source.Attribute attribute.Machine) t;
  boot = filter_map boot_in (elements_at (place.Inside element.Os element.Boot) t);
}

unfoldable pub domain_type_in : Tree → DomainType
domain_type_in t = unwrap_or (option_and_then domain_type_of (attribute_of attribute.Type t)) domain_type.Kvm

-- what follows when the guest goes down, by the element that says so
unfoldable pub lifecycle_in : ElementName → LifecycleAction → Tree → LifecycleAction
lifecycle_in n default t = unwrap_or (option_and_then lifecycle_action_of (own_text n t)) default

unfoldable pub crash_in : Tree → CrashAction
crash_in t = unwrap_or (option_and_then crash_action_of (own_text element.OnCrash t)) crash.Destroy

abbrev pub character_device_of : Tree → CharacterDevice
character_device_of t = record { kind = attribute_of attribute.Type t }

abbrev pub graphics_of : Tree → Graphics
graphics_of t = record { kind = attribute_of attribute.Type t; port = attribute_of attribute.Port t }

abbrev pub memballoon_of : Tree → Memballoon
memballoon_of t = record { model = attribute_of attribute.Model t }

-- the definition that an element without a fault is
unfoldable pub domain_of : Tree → DomainDef
domain_of t = record {
  kind = domain_type_in t;
  name = unwrap_or (own_text element.Name t) [];
  uuid = option_and_then parsed (own_text element.Uuid t);
  title = own_text element.Title t;
  description = own_text element.Description t;
  guest = script_of t;
  memory = memory_of t;
  current_memory = current_memory_of t;
  vcpus = vcpus_of t;
  current_vcpus = current_vcpus_of t;
  os = os_of t;
  on_poweroff = lifecycle_in element.OnPoweroff action.Destroy t;
  on_reboot = lifecycle_in element.OnReboot action.Restart t;
  on_crash = crash_in t;
  emulator = text_at (in_devices element.Emulator) t;
  disks = map disk_of (elements_at (in_devices element.Disk) t);
  interfaces = map interface_of (elements_at (in_devices element.Interface) t);
  serials = map character_device_of (elements_at (in_devices element.Serial) t);
  consoles = map character_device_of (elements_at (in_devices element.Console) t);
  graphics = map graphics_of (elements_at (in_devices element.Graphics) t);
  memballoon = option_map memballoon_of (element_at (in_devices element.Memballoon) t);
}
