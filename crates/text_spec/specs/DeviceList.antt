-- Devices one after another: each by the table of its kind, and none with the key of another.
use Rattle.std.specs.Prelude.{ℕ, List, [], ◌∷◌, ◌++◌, Option, Some, None, Result, Err, map, option_map, if◌then◌else◌}
use Rattle.std.specs.Char.{to_ascii_lowercase}
use Rattle.std.specs.Option.{option_or}
use Rattle.types_base.specs.declared.device_def.DeviceDef.{DeviceDef}
use Rattle.types_base.specs.declared.device_def.DeviceDef.TheVariants as device
use Rattle.text_spec.specs.declared.definition.DefFault.{DefFault}
use Rattle.text_spec.specs.declared.definition.DefKind.TheVariants as kind
use Rattle.text_spec.specs.declared.device_kind.DeviceKind.{DeviceKind}
use Rattle.text_spec.specs.declared.device_kind.DeviceKind.TheVariants as of
use Rattle.text_spec.specs.declared.row.Row.{Row}
use Rattle.text_spec.specs.declared.vocabulary.ElementName.{ElementName}
use Rattle.text_spec.specs.declared.vocabulary.ElementName.TheVariants as element
use Rattle.text_spec.specs.DeviceText.{disk_rows, disk_of, target_dev, interface_rows, interface_of, mac_address}
use Rattle.text_spec.specs.Look.{is_element}
use Rattle.text_spec.specs.Table.{fault_at, rows_fault, root_fault, told}
use Rattle.text_spec.specs.Tag.{is_among}
use Rattle.text_spec.specs.Tree.{Tree}

-- the element of a kind, its table, and its key with the element that has it; of a MAC
-- address the case of the letters does not matter
abbrev pub element_for : DeviceKind → ElementName
element_for of.Disk = element.Disk
element_for of.Interface = element.Interface

abbrev pub rows_for : DeviceKind → List Row
rows_for of.Disk = disk_rows
rows_for of.Interface = interface_rows

abbrev pub key_element : DeviceKind → ElementName
key_element of.Disk = element.Target
key_element of.Interface = element.Mac

unfoldable pub key_in : DeviceKind → Tree → Option (List ℕ)
key_in of.Disk t = target_dev t
key_in of.Interface t = option_map (λ text. map to_ascii_lowercase text) (mac_address t)

-- a key that an earlier device has
abbrev pub key_fault : DeviceKind → List ElementName → List (List ℕ) → Option (List ℕ) → Option DefFault
key_fault d names keys None = None
key_fault d names keys (Some key) =
    if is_among key keys then Some (fault_at (names ++ key_element d ∷ []) kind.BadValue) else None

abbrev pub with_key : Option (List ℕ) → List (List ℕ) → List (List ℕ)
with_key None keys = keys
with_key (Some key) keys = key ∷ keys

-- the fault of one device, of which earlier ones have these keys
unfoldable pub device_fault : DeviceKind → List ElementName → List (List ℕ) → Tree → Option DefFault
device_fault d names keys t =
    option_or (rows_fault names (rows_for d) t) (key_fault d names keys (key_in d t))

-- the first fault of devices of a kind
unfoldable pub devices_fault : DeviceKind → List ElementName → List (List ℕ) → List Tree → Option DefFault
devices_fault d names keys [] = None
devices_fault d names keys (t ∷ ts) =
    option_or (device_fault d names keys t) (devices_fault d names (with_key (key_in d t) keys) ts)

-- ---- a device as a text of its own
-- the fault of a device's element on its own
abbrev pub alone_fault : DeviceKind → Tree → Option DefFault
alone_fault d t = rows_fault (element_for d ∷ []) (rows_for d) t

-- the device that a tree is, by the tables
unfoldable pub device_in : Tree → Result DeviceDef DefFault
device_in t =
    if is_element element.Disk t then told (alone_fault of.Disk t) (device.Disk (disk_of t))
    else (if is_element element.Interface t then told (alone_fault of.Interface t) (device.Interface (interface_of t))
    else Err (root_fault t))
