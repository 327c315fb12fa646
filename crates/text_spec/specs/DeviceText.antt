-- The tables of disks and interfaces of libvirt's domain format ("Hard drives, floppy disks,
-- CDROMs", "Network interfaces"), and the devices that elements stand for.
use Rattle.std.specs.Prelude.{ℕ, List, [], ◌∷◌, is_some, Option, unwrap_or, option_and_then, option_map}
use Rattle.types_base.specs.declared.device_def.Disk.{Disk}
use Rattle.types_base.specs.declared.device_def.DiskDevice.TheVariants as disk_device
use Rattle.types_base.specs.declared.device_def.DiskDriver.{DiskDriver}
use Rattle.types_base.specs.declared.device_def.DiskSource.{DiskSource}
use Rattle.types_base.specs.declared.device_def.DiskTarget.{DiskTarget}
use Rattle.types_base.specs.declared.device_def.DiskType.TheVariants as disk_type
use Rattle.types_base.specs.declared.device_def.Interface.{Interface}
use Rattle.types_base.specs.declared.device_def.InterfaceModel.{InterfaceModel}
use Rattle.types_base.specs.declared.device_def.InterfaceSource.{InterfaceSource}
use Rattle.types_base.specs.declared.device_def.InterfaceType.TheVariants as interface_type
use Rattle.types_base.specs.declared.mac.Mac.{Mac}
use Rattle.text_spec.specs.declared.row.Content.TheVariants as content
use Rattle.text_spec.specs.declared.row.Place.TheVariants as place
use Rattle.text_spec.specs.declared.row.Row.{Row}
use Rattle.text_spec.specs.declared.row.Source.TheVariants as source
use Rattle.text_spec.specs.declared.vocabulary.AttributeName.TheVariants as attribute
use Rattle.text_spec.specs.declared.vocabulary.ElementName.TheVariants as element
use Rattle.text_spec.specs.Look.{attribute_of, first_of, value_at}
use Rattle.text_spec.specs.MacText.{mac_of}
use Rattle.text_spec.specs.Table.{needed, optional}
use Rattle.text_spec.specs.Tree.{Tree}
use Rattle.text_spec.specs.Words.{disk_type_of, disk_device_of, interface_type_of}

-- ---- disks
unfoldable pub disk_rows : List Row
disk_rows =
    optional place.Here (source.Attribute attribute.Type) content.DiskType
    ∷ optional place.Here (source.Attribute attribute.Device) content.DiskDevice
    ∷ optional (place.Child element.Driver) (source.Attribute attribute.Name) content.Text
    ∷ optional (place.Child element.Driver) (source.Attribute attribute.Type) content.Text
    ∷ optional (place.Child element.Source) (source.Attribute attribute.File) content.Text
    ∷ optional (place.Child element.Source) (source.Attribute attribute.Dev) content.Text
    ∷ optional (place.Child element.Source) (source.Attribute attribute.Pool) content.Text
    ∷ optional (place.Child element.Source) (source.Attribute attribute.Volume) content.Text
    ∷ needed (place.Child element.Target) (source.Attribute attribute.Dev) content.Filled
    ∷ optional (place.Child element.Target) (source.Attribute attribute.Bus) content.Text
    ∷ []

abbrev pub driver_of : Tree → DiskDriver
driver_of t = record { name = attribute_of attribute.Name t; kind = attribute_of attribute.Type t }

abbrev pub disk_source_of : Tree → DiskSource
disk_source_of t = record {
  file = attribute_of attribute.File t;
  dev = attribute_of attribute.Dev t;
  pool = attribute_of attribute.Pool t;
  volume = attribute_of attribute.Volume t;
}

-- by what a disk is distinguished
abbrev pub target_dev : Tree → Option (List ℕ)
target_dev t = value_at (place.Child element.Target) (source.Attribute attribute.Dev) t

abbrev pub target_of : Tree → DiskTarget
target_of t = record {
  dev = unwrap_or (target_dev t) [];
  bus = value_at (place.Child element.Target) (source.Attribute attribute.Bus) t;
}

-- the disk that an element without a fault is
unfoldable pub disk_of : Tree → Disk
disk_of t = record {
  kind = unwrap_or (option_and_then disk_type_of (attribute_of attribute.Type t)) disk_type.File;
  device = unwrap_or (option_and_then disk_device_of (attribute_of attribute.Device t)) disk_device.Disk;
  driver = option_map driver_of (first_of element.Driver t);
  source = option_map disk_source_of (first_of element.Source t);
  target = target_of t;
  readonly = is_some (first_of element.Readonly t);
}

-- ---- interfaces
unfoldable pub interface_rows : List Row
interface_rows =
    needed place.Here (source.Attribute attribute.Type) content.InterfaceType
    ∷ optional (place.Child element.Mac) (source.Attribute attribute.Address) content.Mac
    ∷ optional (place.Child element.Source) (source.Attribute attribute.Network) content.Text
    ∷ optional (place.Child element.Source) (source.Attribute attribute.Bridge) content.Text
    ∷ optional (place.Child element.Model) (source.Attribute attribute.Type) content.Text
    ∷ []

abbrev pub interface_source_of : Tree → InterfaceSource
interface_source_of t = record {
  network = attribute_of attribute.Network t;
  bridge = attribute_of attribute.Bridge t;
}

abbrev pub interface_model_of : Tree → InterfaceModel
interface_model_of t = record { kind = attribute_of attribute.Type t }

-- by what an interface is distinguished
abbrev pub mac_address : Tree → Option (List ℕ)
mac_address t = value_at (place.Child element.Mac) (source.Attribute attribute.Address) t

abbrev pub mac_in : Tree → Option Mac
mac_in t = option_and_then mac_of (mac_address t)

-- the interface that an element without a fault is; its type is needed
unfoldable pub interface_of : Tree → Interface
interface_of t = record {
  kind = unwrap_or (option_and_then interface_type_of (attribute_of attribute.Type t)) interface_type.Network;
  mac = mac_in t;
  source = option_map interface_source_of (first_of element.Source t);
  model = option_map interface_model_of (first_of element.Model t);
}
