-- The texts that a definition which reading can give is made of: characters of XML, with no blank at
-- an end where they are between tags.
use Rattle.std.specs.Prelude.{Option, Some, None}
use Rattle.std.specs.List.{AllByRecursion}
use Rattle.types_base.specs.declared.device_def.DeviceDef.{DeviceDef}
use Rattle.types_base.specs.declared.device_def.DeviceDef.TheVariants as device
use Rattle.types_base.specs.declared.device_def.Disk.{Disk}
use Rattle.types_base.specs.declared.device_def.DiskDriver.{DiskDriver}
use Rattle.types_base.specs.declared.device_def.DiskSource.{DiskSource}
use Rattle.types_base.specs.declared.device_def.Interface.{Interface}
use Rattle.types_base.specs.declared.device_def.InterfaceModel.{InterfaceModel}
use Rattle.types_base.specs.declared.device_def.InterfaceSource.{InterfaceSource}
use Rattle.types_base.specs.declared.domain_def.CharacterDevice.{CharacterDevice}
use Rattle.types_base.specs.declared.domain_def.DomainDef.{DomainDef}
use Rattle.types_base.specs.declared.domain_def.Graphics.{Graphics}
use Rattle.types_base.specs.declared.domain_def.Memballoon.{Memballoon}
use Rattle.text_spec.specs.Writable.{IsText}
use Rattle.text_laws.specs.Given.{IsValue}

-- of a part that is there
abbrev pub Of : {A : Type 0} → (A → Type 0) → Option A → Type 0
Of P None = Unit {0}
Of P (Some x) = P x

abbrev pub IsDriverText : DiskDriver → Type 0
IsDriverText d = Of IsValue d.name × Of IsValue d.kind

abbrev pub IsDiskSourceText : DiskSource → Type 0
IsDiskSourceText s = Of IsValue s.file × Of IsValue s.dev × Of IsValue s.pool × Of IsValue s.volume

pub record IsDiskText (d : Disk) : Type 0 where
  pub driver : Of IsDriverText d.driver
  pub source : Of IsDiskSourceText d.source
  pub dev : IsValue d.target.dev
  pub bus : Of IsValue d.target.bus

abbrev pub IsInterfaceSourceText : InterfaceSource → Type 0
IsInterfaceSourceText s = Of IsValue s.network × Of IsValue s.bridge

abbrev pub IsModelText : InterfaceModel → Type 0
IsModelText m = Of IsValue m.kind

abbrev pub IsInterfaceText : Interface → Type 0
IsInterfaceText i = Of IsInterfaceSourceText i.source × Of IsModelText i.model

abbrev pub IsDeviceText : DeviceDef → Type 0
IsDeviceText (device.Disk d) = IsDiskText d
IsDeviceText (device.Interface i) = IsInterfaceText i

abbrev pub IsCharacterText : CharacterDevice → Type 0
IsCharacterText c = Of IsValue c.kind

abbrev pub IsGraphicsText : Graphics → Type 0
IsGraphicsText g = Of IsValue g.kind × Of IsValue g.port

abbrev pub IsMemballoonText : Memballoon → Type 0
IsMemballoonText m = Of IsValue m.model

pub record IsDomainText (d : DomainDef) : Type 0 where
  pub name : IsText d.name
  pub title : Of IsText d.title
  pub description : Of IsText d.description
  pub guest : IsText d.guest.text
  pub os : IsText d.os.kind
  pub arch : Of IsValue d.os.arch
  pub machine : Of IsValue d.os.machine
  pub emulator : Of IsText d.emulator
  pub disks : AllByRecursion IsDiskText d.disks
  pub interfaces : AllByRecursion IsInterfaceText d.interfaces
  pub serials : AllByRecursion IsCharacterText d.serials
  pub consoles : AllByRecursion IsCharacterText d.consoles
  pub graphics : AllByRecursion IsGraphicsText d.graphics
  pub memballoon : Of IsMemballoonText d.memballoon
