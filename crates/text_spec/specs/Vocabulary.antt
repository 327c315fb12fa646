-- The names of elements and attributes of libvirt's domain format that the element tables speak of.
use Rattle.std.specs.Prelude.{ℕ, List, codes}
use Rattle.text_spec.specs.declared.vocabulary.AttributeName.{AttributeName}
use Rattle.text_spec.specs.declared.vocabulary.AttributeName.TheVariants as attribute
use Rattle.text_spec.specs.declared.vocabulary.ElementName.{ElementName}
use Rattle.text_spec.specs.declared.vocabulary.ElementName.TheVariants as element

-- the name of an element
abbrev pub element_word : ElementName → List ℕ
element_word element.Domain = codes "domain"
element_word element.Name = codes "name"
element_word element.Uuid = codes "uuid"
element_word element.Title = codes "title"
element_word element.Description = codes "description"
element_word element.Metadata = codes "metadata"
element_word element.Guest = codes "guest"
element_word element.Memory = codes "memory"
element_word element.CurrentMemory = codes "currentMemory"
element_word element.Vcpu = codes "vcpu"
element_word element.Os = codes "os"
element_word element.Type = codes "type"
element_word element.Boot = codes "boot"
element_word element.OnPoweroff = codes "on_poweroff"
element_word element.OnReboot = codes "on_reboot"
element_word element.OnCrash = codes "on_crash"
element_word element.Devices = codes "devices"
element_word element.Emulator = codes "emulator"
element_word element.Disk = codes "disk"
element_word element.Interface = codes "interface"
element_word element.Serial = codes "serial"
element_word element.Console = codes "console"
element_word element.Graphics = codes "graphics"
element_word element.Memballoon = codes "memballoon"
element_word element.Driver = codes "driver"
element_word element.Source = codes "source"
element_word element.Target = codes "target"
element_word element.Readonly = codes "readonly"
element_word element.Mac = codes "mac"
element_word element.Model = codes "model"

-- the name of an attribute
abbrev pub attribute_word : AttributeName → List ℕ
attribute_word attribute.Type = codes "type"
attribute_word attribute.Unit = codes "unit"
attribute_word attribute.Current = codes "current"
attribute_word attribute.Arch = codes "arch"
attribute_word attribute.Machine = codes "machine"
attribute_word attribute.Dev = codes "dev"
attribute_word attribute.Device = codes "device"
attribute_word attribute.Name = codes "name"
attribute_word attribute.File = codes "file"
attribute_word attribute.Pool = codes "pool"
attribute_word attribute.Volume = codes "volume"
attribute_word attribute.Bus = codes "bus"
attribute_word attribute.Address = codes "address"
attribute_word attribute.Network = codes "network"
attribute_word attribute.Bridge = codes "bridge"
attribute_word attribute.Port = codes "port"
attribute_word attribute.Model = codes "model"
