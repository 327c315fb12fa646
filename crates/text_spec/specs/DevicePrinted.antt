-- The trees that disks and interfaces stand for: attributes and elements in the order of their
-- tables, each value that has a default with it.
use Rattle.std.specs.Prelude.{ℕ, List, [], ◌∷◌, ◌++◌, length, Bool, Some, unwrap_or}
use Rattle.types_base.specs.declared.device_def.DeviceDef.{DeviceDef}
use Rattle.types_base.specs.declared.device_def.DeviceDef.TheVariants as device
use Rattle.types_base.specs.declared.device_def.Disk.{Disk}
use Rattle.types_base.specs.declared.device_def.DiskDriver.{DiskDriver}
use Rattle.types_base.specs.declared.device_def.DiskSource.{DiskSource}
use Rattle.types_base.specs.declared.device_def.DiskTarget.{DiskTarget}
use Rattle.types_base.specs.declared.device_def.Interface.{Interface}
use Rattle.types_base.specs.declared.device_def.InterfaceModel.{InterfaceModel}
use Rattle.types_base.specs.declared.device_def.InterfaceSource.{InterfaceSource}
use Rattle.types_base.specs.declared.mac.Mac.{Mac}
use Rattle.text_spec.specs.declared.pair.Pair.{Pair}
use Rattle.text_spec.specs.declared.vocabulary.AttributeName.TheVariants as attribute
use Rattle.text_spec.specs.declared.vocabulary.ElementName.TheVariants as element
use Rattle.text_spec.specs.Spelling.{pair, pairs, tagged, holding, present, flagged, fits}
use Rattle.types_base.specs.Mac.{mac_text}
use Rattle.text_spec.specs.Tree.{Tree}
use Rattle.text_spec.specs.Words.{disk_type_word, disk_device_word, interface_type_word}
use Rattle.text_spec.specs.Written.{written}

-- ---- disks
abbrev pub driver_tree : DiskDriver → Tree
driver_tree d = tagged element.Driver (pairs attribute.Name d.name ++ pairs attribute.Type d.kind)

abbrev pub disk_source_tree : DiskSource → Tree
disk_source_tree s =
    tagged element.Source
    (pairs attribute.File s.file ++ (pairs attribute.Dev s.dev ++ (pairs attribute.Pool s.pool ++ pairs attribute.Volume s.volume)))

abbrev pub target_tree : DiskTarget → Tree
target_tree t = tagged element.Target (pair attribute.Dev t.dev ∷ pairs attribute.Bus t.bus)

abbrev pub disk_attributes : Disk → List Pair
disk_attributes d = pair attribute.Type (disk_type_word d.kind) ∷ pair attribute.Device (disk_device_word d.device) ∷ []

abbrev pub disk_children : Disk → List Tree
disk_children d =
    present driver_tree d.driver
    ++ (present disk_source_tree d.source ++ (target_tree d.target ∷ flagged element.Readonly d.readonly))

unfoldable pub disk_tree : Disk → Tree
disk_tree d = holding element.Disk (disk_attributes d) (disk_children d)

-- ---- interfaces
abbrev pub mac_tree : Mac → Tree
mac_tree mac = tagged element.Mac (pair attribute.Address (mac_text mac) ∷ [])

abbrev pub interface_source_tree : InterfaceSource → Tree
interface_source_tree s = tagged element.Source (pairs attribute.Network s.network ++ pairs attribute.Bridge s.bridge)

abbrev pub interface_model_tree : InterfaceModel → Tree
interface_model_tree m = tagged element.Model (pairs attribute.Type m.kind)

abbrev pub interface_children : Interface → List Tree
interface_children i =
    present mac_tree i.mac ++ (present interface_source_tree i.source ++ present interface_model_tree i.model)

unfoldable pub interface_tree : Interface → Tree
interface_tree i =
    holding element.Interface (pair attribute.Type (interface_type_word i.kind) ∷ []) (interface_children i)

-- ---- a device
unfoldable pub device_tree : DeviceDef → Tree
device_tree (device.Disk d) = disk_tree d
device_tree (device.Interface i) = interface_tree i

-- ---- as if filled in
-- an address that stands in for an absent one: all take the same room
abbrev pub any_mac : Mac
any_mac = record { bytes = 0 ∷ 0 ∷ 0 ∷ 0 ∷ 0 ∷ 0 ∷ [] }

abbrev pub with_mac : Interface → Interface
with_mac i = record i { mac = Some (unwrap_or i.mac any_mac) }

abbrev pub device_stood_in : DeviceDef → DeviceDef
device_stood_in (device.Disk d) = device.Disk d
device_stood_in (device.Interface i) = device.Interface (with_mac i)

-- the bytes of a device's text once it is filled in
unfoldable pub filled_device_length : DeviceDef → ℕ
filled_device_length d = length (written (device_tree (device_stood_in d)))

-- a device whose text is within the limits of a text, once it is filled in
unfoldable pub device_fits : DeviceDef → Bool
device_fits d = fits (device_tree (device_stood_in d))
