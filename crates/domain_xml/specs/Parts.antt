-- The parts from which a definition is put together, and the faults of its devices.
use Rattle.std.specs.Prelude.{ℕ, ◌+◌, List, [], ◌∷◌, length, map, nat_lt, Option, Some, None, unwrap_or, option_map, option_and_then, if◌then◌else◌}
use Rattle.std.specs.Option.{option_or}
use Rattle.uuid.specs.Text.{parsed}
use Rattle.types_base.specs.declared.domain_def.DomainDef.{DomainDef}
use Rattle.types_base.specs.declared.domain_def.LifecycleAction.TheVariants as action
use Rattle.types_base.specs.declared.domain_def.Os.{Os}
use Rattle.text_spec.specs.declared.definition.DefFault.{DefFault}
use Rattle.text_spec.specs.declared.definition.DefKind.TheVariants as kind
use Rattle.text_spec.specs.declared.device_kind.DeviceKind.{DeviceKind}
use Rattle.text_spec.specs.declared.device_kind.DeviceKind.TheVariants as of
use Rattle.text_spec.specs.declared.row.Place.TheVariants as place
use Rattle.text_spec.specs.declared.row.Source.TheVariants as source
use Rattle.text_spec.specs.declared.vocabulary.ElementName.{ElementName}
use Rattle.text_spec.specs.declared.vocabulary.ElementName.TheVariants as element
use Rattle.text_spec.specs.DeviceList.{devices_fault, element_for}
use Rattle.text_spec.specs.DeviceText.{disk_of, interface_of}
use Rattle.text_spec.specs.DomainText.{most_devices}
use Rattle.text_spec.specs.DomainValue.{own_text, script_of, character_device_of, graphics_of, memballoon_of, domain_type_in, memory_of, current_memory_of, vcpus_of, current_vcpus_of, lifecycle_in, crash_in}
use Rattle.text_spec.specs.Look.{all_of, first_of, value_at}
use Rattle.text_spec.specs.Table.{fault_at}
use Rattle.text_spec.specs.Tree.{Tree}
use Rattle.domain_xml.specs.declared.devices.Devices.{Devices}
use Rattle.domain_xml.specs.declared.head.Head.{Head}

unfoldable pub head_of : Tree → Head
head_of t = record {
  name = unwrap_or (own_text element.Name t) [];
  title = own_text element.Title t;
  description = own_text element.Description t;
  guest = script_of t;
}

abbrev pub child_text : ElementName → Tree → Option (List ℕ)
child_text n t = value_at (place.Child n) source.Text t

unfoldable pub devices_of : Tree → Devices
devices_of t = record {
  emulator = child_text element.Emulator t;
  disks = map disk_of (all_of element.Disk t);
  interfaces = map interface_of (all_of element.Interface t);
  serials = map character_device_of (all_of element.Serial t);
  consoles = map character_device_of (all_of element.Console t);
  graphics = map graphics_of (all_of element.Graphics t);
  memballoon = option_map memballoon_of (first_of element.Memballoon t);
}

abbrev pub no_devices : Devices
no_devices = record {
  emulator = None;
  disks = [];
  interfaces = [];
  serials = [];
  consoles = [];
  graphics = [];
  memballoon = None;
}

unfoldable pub devices_in : Option Tree → Devices
devices_in None = no_devices
devices_in (Some t) = devices_of t

-- ---- faults of the devices, by the element that they are in
-- the elements of a name in one that may be absent
abbrev pub all_in : ElementName → Option Tree → List Tree
all_in n None = []
all_in n (Some t) = all_of n t

abbrev pub kind_fault : DeviceKind → List ElementName → Option Tree → Option DefFault
kind_fault k names t = devices_fault k names [] (all_in (element_for k) t)

abbrev pub many_fault : Option Tree → Option DefFault
many_fault t =
    if nat_lt most_devices (length (all_in element.Disk t) + length (all_in element.Interface t))
    then Some (fault_at (element.Domain ∷ element.Devices ∷ []) kind.Many) else None

abbrev pub all_devices_fault : Option Tree → Option DefFault
all_devices_fault t =
    option_or (kind_fault of.Disk (element.Domain ∷ element.Devices ∷ element.Disk ∷ []) t)
    (option_or (kind_fault of.Interface (element.Domain ∷ element.Devices ∷ element.Interface ∷ []) t) (many_fault t))

-- ---- the definition from its parts
abbrev pub put_together : Tree → Head → Os → Devices → DomainDef
put_together t head os devices = record {
  kind = domain_type_in t;
  name = head.name;
  uuid = option_and_then parsed (own_text element.Uuid t);
  title = head.title;
  description = head.description;
  guest = head.guest;
  memory = memory_of t;
  current_memory = current_memory_of t;
  vcpus = vcpus_of t;
  current_vcpus = current_vcpus_of t;
  os = os;
  on_poweroff = lifecycle_in element.OnPoweroff action.Destroy t;
  on_reboot = lifecycle_in element.OnReboot action.Restart t;
  on_crash = crash_in t;
  emulator = devices.emulator;
  disks = devices.disks;
  interfaces = devices.interfaces;
  serials = devices.serials;
  consoles = devices.consoles;
  graphics = devices.graphics;
  memballoon = devices.memballoon;
}
