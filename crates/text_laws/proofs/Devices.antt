-- Devices that were printed are read, by their tables.
use Rattle.std.proofs.Common.{◌≡◌, List, [], ◌∷◌, true, false, Option, Some, None, Ok, refl}
use Rattle.std.specs.Prelude.{option_map}
use Rattle.types_base.specs.declared.device_def.DeviceDef.{DeviceDef}
use Rattle.types_base.specs.declared.device_def.DeviceDef.TheVariants as device
use Rattle.types_base.specs.declared.device_def.Disk.{Disk}
use Rattle.types_base.specs.declared.device_def.Interface.{Interface}
use Rattle.types_base.specs.declared.mac.Mac.{Mac}
use Rattle.text_spec.specs.declared.row.Content.TheVariants as content
use Rattle.text_spec.specs.declared.row.Place.TheVariants as place
use Rattle.text_spec.specs.declared.row.Source.TheVariants as source
use Rattle.text_spec.specs.declared.vocabulary.AttributeName.TheVariants as attribute
use Rattle.text_spec.specs.declared.vocabulary.ElementName.{ElementName}
use Rattle.text_spec.specs.declared.vocabulary.ElementName.TheVariants as element
use Rattle.text_spec.specs.Content.{content_fault}
use Rattle.text_spec.specs.DeviceList.{device_in}
use Rattle.text_spec.specs.DevicePrinted.{target_tree, mac_tree, disk_tree, interface_tree, device_tree}
use Rattle.text_spec.specs.DeviceText.{disk_rows, interface_rows}
use Rattle.text_spec.specs.Look.{is_element, first_of}
use Rattle.types_base.specs.Mac.{mac_text}
use Rattle.text_spec.specs.Table.{rows_fault, wrong_at, optional}
use Rattle.text_spec.specs.Words.{disk_type_word, disk_device_word, interface_type_word}
use Rattle.text_laws.proofs.Rows.{clean, none_left, text_row, optional_row, needed_row, absent_row}
use Rattle.text_laws.proofs.Disks as disk
use Rattle.text_laws.proofs.Interfaces as interface
use Rattle.text_laws.specs.Given.{IsMacOf, IsDisk, IsDevice}
use Rattle.text_laws.proofs.Macs.{mac_back}

module _ (names : List ElementName) where
  pub disk_clean : (d : Disk) → IsDisk d → rows_fault names disk_rows (disk_tree d) ≡ None
  unfolding disk_rows content_fault
  disk_clean d is =
      let t = disk_tree d in
      clean names _ _ t (optional_row place.Here (source.Attribute attribute.Type) content.DiskType t t (disk_type_word d.kind) refl (disk.type_found d) (rw (disk.type_back d.kind)))
      (clean names _ _ t (optional_row place.Here (source.Attribute attribute.Device) content.DiskDevice t t (disk_device_word d.device) refl (disk.device_found d) (rw (disk.device_back d.device)))
      (clean names _ _ t (text_row (place.Child element.Driver) (source.Attribute attribute.Name) t)
      (clean names _ _ t (text_row (place.Child element.Driver) (source.Attribute attribute.Type) t)
      (clean names _ _ t (text_row (place.Child element.Source) (source.Attribute attribute.File) t)
      (clean names _ _ t (text_row (place.Child element.Source) (source.Attribute attribute.Dev) t)
      (clean names _ _ t (text_row (place.Child element.Source) (source.Attribute attribute.Pool) t)
      (clean names _ _ t (text_row (place.Child element.Source) (source.Attribute attribute.Volume) t)
      (clean names _ _ t (needed_row (place.Child element.Target) (source.Attribute attribute.Dev) content.Filled t (target_tree d.target) d.target.dev
      (disk.target_found d) (disk.target_dev_found d.target) (rw is))
      (clean names _ _ t (text_row (place.Child element.Target) (source.Attribute attribute.Bus) t)
      (none_left names t))))))))))

  mac_row : (i : Interface) (own : Option Mac) → first_of element.Mac (interface_tree i) ≡ option_map mac_tree own → IsMacOf own
      → wrong_at (optional (place.Child element.Mac) (source.Attribute attribute.Address) content.Mac) (interface_tree i) ≡ None
  unfolding content_fault
  mac_row i None e is = absent_row (place.Child element.Mac) (source.Attribute attribute.Address) content.Mac (interface_tree i) e
  mac_row i (Some m) e is =
      optional_row (place.Child element.Mac) (source.Attribute attribute.Address) content.Mac (interface_tree i) (mac_tree m) (mac_text m) e
      (interface.address_found m) (rw (mac_back m is))

  pub interface_clean : (i : Interface) → IsMacOf i.mac → rows_fault names interface_rows (interface_tree i) ≡ None
  unfolding interface_rows content_fault
  interface_clean i is =
      let t = interface_tree i in
      clean names _ _ t (needed_row place.Here (source.Attribute attribute.Type) content.InterfaceType t t (interface_type_word i.kind) refl (interface.type_found i) (rw (interface.type_back i.kind)))
      (clean names _ _ t (mac_row i i.mac (interface.mac_found i) is)
      (clean names _ _ t (text_row (place.Child element.Source) (source.Attribute attribute.Network) t)
      (clean names _ _ t (text_row (place.Child element.Source) (source.Attribute attribute.Bridge) t)
      (clean names _ _ t (text_row (place.Child element.Model) (source.Attribute attribute.Type) t)
      (none_left names t)))))

is_disk : (d : Disk) → is_element element.Disk (disk_tree d) ≡ true
unfolding is_element disk_tree
is_disk d = refl

no_disk : (i : Interface) → is_element element.Disk (interface_tree i) ≡ false
unfolding is_element interface_tree
no_disk i = refl

is_interface : (i : Interface) → is_element element.Interface (interface_tree i) ≡ true
unfolding is_element interface_tree
is_interface i = refl

pub device_back : (d : DeviceDef) → IsDevice d → device_in (device_tree d) ≡ Ok d
unfolding device_in device_tree
device_back (device.Disk d) is =
    rw (is_disk d, disk_clean (element.Disk ∷ []) d is, disk.disk_back d)
device_back (device.Interface i) is =
    rw (no_disk i, is_interface i, interface_clean (element.Interface ∷ []) i is, interface.interface_back i is)
