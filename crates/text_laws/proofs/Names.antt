-- The names of elements and attributes are names of XML.
use Rattle.std.proofs.Common.{refl}
use Rattle.text_spec.specs.declared.vocabulary.AttributeName.{AttributeName}
use Rattle.text_spec.specs.declared.vocabulary.AttributeName.TheVariants as attribute
use Rattle.text_spec.specs.declared.vocabulary.ElementName.{ElementName}
use Rattle.text_spec.specs.declared.vocabulary.ElementName.TheVariants as element
use Rattle.text_spec.specs.Character.{is_name_start, is_name_char}
use Rattle.text_spec.specs.Vocabulary.{element_word, attribute_word}
use Rattle.text_spec.specs.Writable.{IsNamed}
use Rattle.text_laws.proofs.Plain.{named_by}

pub element_named : (n : ElementName) → IsNamed (element_word n)
unfolding is_name_start is_name_char
element_named element.Domain = named_by _ _ refl refl refl
element_named element.Name = named_by _ _ refl refl refl
element_named element.Uuid = named_by _ _ refl refl refl
element_named element.Title = named_by _ _ refl refl refl
element_named element.Description = named_by _ _ refl refl refl
element_named element.Metadata = named_by _ _ refl refl refl
element_named element.Guest = named_by _ _ refl refl refl
element_named element.Memory = named_by _ _ refl refl refl
element_named element.CurrentMemory = named_by _ _ refl refl refl
element_named element.Vcpu = named_by _ _ refl refl refl
element_named element.Os = named_by _ _ refl refl refl
element_named element.Type = named_by _ _ refl refl refl
element_named element.Boot = named_by _ _ refl refl refl
element_named element.OnPoweroff = named_by _ _ refl refl refl
element_named element.OnReboot = named_by _ _ refl refl refl
element_named element.OnCrash = named_by _ _ refl refl refl
element_named element.Devices = named_by _ _ refl refl refl
element_named element.Emulator = named_by _ _ refl refl refl
element_named element.Disk = named_by _ _ refl refl refl
element_named element.Interface = named_by _ _ refl refl refl
element_named element.Serial = named_by _ _ refl refl refl
element_named element.Console = named_by _ _ refl refl refl
element_named element.Graphics = named_by _ _ refl refl refl
element_named element.Memballoon = named_by _ _ refl refl refl
element_named element.Driver = named_by _ _ refl refl refl
element_named element.Source = named_by _ _ refl refl refl
element_named element.Target = named_by _ _ refl refl refl
element_named element.Readonly = named_by _ _ refl refl refl
element_named element.Mac = named_by _ _ refl refl refl
element_named element.Model = named_by _ _ refl refl refl

pub attribute_named : (n : AttributeName) → IsNamed (attribute_word n)
unfolding is_name_start is_name_char
attribute_named attribute.Type = named_by _ _ refl refl refl
attribute_named attribute.Unit = named_by _ _ refl refl refl
attribute_named attribute.Current = named_by _ _ refl refl refl
attribute_named attribute.Arch = named_by _ _ refl refl refl
attribute_named attribute.Machine = named_by _ _ refl refl refl
attribute_named attribute.Dev = named_by _ _ refl refl refl
attribute_named attribute.Device = named_by _ _ refl refl refl
attribute_named attribute.Name = named_by _ _ refl refl refl
attribute_named attribute.File = named_by _ _ refl refl refl
attribute_named attribute.Pool = named_by _ _ refl refl refl
attribute_named attribute.Volume = named_by _ _ refl refl refl
attribute_named attribute.Bus = named_by _ _ refl refl refl
attribute_named attribute.Address = named_by _ _ refl refl refl
attribute_named attribute.Network = named_by _ _ refl refl refl
attribute_named attribute.Bridge = named_by _ _ refl refl refl
attribute_named attribute.Port = named_by _ _ refl refl refl
attribute_named attribute.Model = named_by _ _ refl refl refl
