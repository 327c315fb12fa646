-- A definition as it is spelled where an identifier or an address is absent.
use Rattle.std.specs.Prelude.{ℕ, List, Option, Some, unwrap_or, map}
use Rattle.virt_types.specs.Below.types_base.declared.device_def.DeviceDef.{DeviceDef}
use Rattle.virt_types.specs.Below.types_base.declared.device_def.DeviceDef.TheVariants as device
use Rattle.virt_types.specs.Below.types_base.declared.device_def.Interface.{Interface}
use Rattle.virt_types.specs.Below.types_base.declared.domain_def.DomainDef.{DomainDef}
use Rattle.virt_types.specs.Below.types_base.declared.mac.Mac.{Mac}
use Rattle.text_spec.specs.DevicePrinted.{any_mac, with_mac}
use Rattle.text_spec.specs.DomainPrinted.{any_uuid}
use Rattle.xml_print.specs.declared.absent.Absent.{Absent}
use Rattle.xml_print.specs.declared.absent.Absent.TheVariants as absent

abbrev pub uuid_as : Absent → Option (List ℕ) → Option (List ℕ)
uuid_as absent.Omitted uuid = uuid
uuid_as absent.StoodIn uuid = Some (unwrap_or uuid any_uuid)

abbrev pub mac_as : Absent → Option Mac → Option Mac
mac_as absent.Omitted mac = mac
mac_as absent.StoodIn mac = Some (unwrap_or mac any_mac)

abbrev pub interface_as : Absent → Interface → Interface
interface_as a i = record i { mac = mac_as a i.mac }

abbrev pub device_as : Absent → DeviceDef → DeviceDef
device_as a (device.Disk d) = device.Disk d
device_as a (device.Interface i) = device.Interface (interface_as a i)

abbrev pub interfaces_as : Absent → List Interface → List Interface
interfaces_as absent.Omitted is = is
interfaces_as absent.StoodIn is = map with_mac is

-- the definition that is spelled: for `Omitted` the definition itself, for `StoodIn` the one that stands in
abbrev pub domain_as : Absent → DomainDef → DomainDef
domain_as a d = record d { uuid = uuid_as a d.uuid; interfaces = interfaces_as a d.interfaces }
