-- The texts of what is read of a formed tree.
use Rattle.std.proofs.Common.{[]}
use Rattle.text_spec.specs.declared.row.Place.TheVariants as place
use Rattle.text_spec.specs.declared.vocabulary.AttributeName.TheVariants as attribute
use Rattle.text_spec.specs.declared.vocabulary.ElementName.TheVariants as element
use Rattle.text_spec.specs.DeviceText.{driver_of, disk_source_of, target_dev, disk_of, interface_source_of, interface_model_of, interface_of}
use Rattle.text_spec.specs.DomainValue.{own_text, in_devices, script_of, os_type, text_at as text_in, os_of, character_device_of, graphics_of, memballoon_of, domain_of}
use Rattle.text_spec.specs.Look.{elements_at, element_at, first_of}
use Rattle.text_spec.specs.Tree.{Tree}
use Rattle.text_spec.specs.Writable.{IsText}
use Rattle.text_laws.specs.Given.{IsValue}
use Rattle.text_laws.specs.Texts.{IsDriverText, IsDiskSourceText, IsDiskText, IsInterfaceSourceText, IsModelText, IsInterfaceText, IsCharacterText, IsGraphicsText, IsMemballoonText, IsDomainText}
use Rattle.text_laws.proofs.Found.{map_of, or_of, map_all, Formed, formed_at, all_formed_at, attribute_formed, text_at, attribute_at}
use Rattle.text_laws.proofs.Plain.{no_text, no_value}

driver_texts : (t : Tree) → Formed t → IsDriverText (driver_of t)
driver_texts t f = (attribute_formed attribute.Name t f, attribute_formed attribute.Type t f)

source_texts : (t : Tree) → Formed t → IsDiskSourceText (disk_source_of t)
source_texts t f = (
  attribute_formed attribute.File t f,
  attribute_formed attribute.Dev t f,
  attribute_formed attribute.Pool t f,
  attribute_formed attribute.Volume t f,
)

pub disk_texts : (t : Tree) → Formed t → IsDiskText (disk_of t)
unfolding disk_of
disk_texts t f = record {
  driver = map_of Formed IsDriverText driver_of driver_texts (first_of element.Driver t) (formed_at (place.Child element.Driver) t f);
  source = map_of Formed IsDiskSourceText disk_source_of source_texts (first_of element.Source t) (formed_at (place.Child element.Source) t f);
  dev = or_of IsValue (target_dev t) [] (attribute_at (place.Child element.Target) attribute.Dev t f) no_value;
  bus = attribute_at (place.Child element.Target) attribute.Bus t f;
}

interface_source_texts : (t : Tree) → Formed t → IsInterfaceSourceText (interface_source_of t)
interface_source_texts t f = (attribute_formed attribute.Network t f, attribute_formed attribute.Bridge t f)

pub interface_texts : (t : Tree) → Formed t → IsInterfaceText (interface_of t)
unfolding interface_of
interface_texts t f = (
  map_of Formed IsInterfaceSourceText interface_source_of interface_source_texts (first_of element.Source t) (formed_at (place.Child element.Source) t f),
  map_of Formed IsModelText interface_model_of (attribute_formed attribute.Type) (first_of element.Model t) (formed_at (place.Child element.Model) t f),
)

graphics_texts : (t : Tree) → Formed t → IsGraphicsText (graphics_of t)
graphics_texts t f = (attribute_formed attribute.Type t f, attribute_formed attribute.Port t f)

pub domain_texts : (t : Tree) → Formed t → IsDomainText (domain_of t)
unfolding domain_of script_of os_of
domain_texts t f = record {
  name = or_of IsText (own_text element.Name t) [] (text_at (place.Child element.Name) t f) no_text;
  title = text_at (place.Child element.Title) t f;
  description = text_at (place.Child element.Description) t f;
  guest = or_of IsText (text_in (place.Inside element.Metadata element.Guest) t) [] (text_at (place.Inside element.Metadata element.Guest) t f) no_text;
  os = or_of IsText (text_in os_type t) [] (text_at os_type t f) no_text;
  arch = attribute_at os_type attribute.Arch t f;
  machine = attribute_at os_type attribute.Machine t f;
  emulator = text_at (in_devices element.Emulator) t f;
  disks = map_all Formed IsDiskText disk_of disk_texts (elements_at (in_devices element.Disk) t) (all_formed_at (in_devices element.Disk) t f);
  interfaces = map_all Formed IsInterfaceText interface_of interface_texts (elements_at (in_devices element.Interface) t) (all_formed_at (in_devices element.Interface) t f);
  serials = map_all Formed IsCharacterText character_device_of (attribute_formed attribute.Type) (elements_at (in_devices element.Serial) t) (all_formed_at (in_devices element.Serial) t f);
  consoles = map_all Formed IsCharacterText character_device_of (attribute_formed attribute.Type) (elements_at (in_devices element.Console) t) (all_formed_at (in_devices element.Console) t f);
  graphics = map_all Formed IsGraphicsText graphics_of graphics_texts (elements_at (in_devices element.Graphics) t) (all_formed_at (in_devices element.Graphics) t f);
  memballoon = map_of Formed IsMemballoonText memballoon_of (attribute_formed attribute.Model) (element_at (in_devices element.Memballoon) t) (formed_at (in_devices element.Memballoon) t f);
}
