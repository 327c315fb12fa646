-- What a whole text reads as is sound.
use Rattle.std.proofs.Common.{◌≡◌, ℕ, List, Bool, true, false, Result, Ok, Err, subst}
use Rattle.std.specs.Prelude.{if◌then◌else◌}
use Rattle.types_base.specs.declared.device_def.DeviceDef.{DeviceDef}
use Rattle.types_base.specs.declared.device_def.DeviceDef.TheVariants as device
use Rattle.types_base.specs.declared.domain_def.DomainDef.{DomainDef}
use Rattle.text_spec.specs.declared.definition.DefFault.{DefFault}
use Rattle.text_spec.specs.declared.definition.DefKind.TheVariants as kind
use Rattle.text_spec.specs.declared.device_kind.DeviceKind.TheVariants as of
use Rattle.text_spec.specs.declared.vocabulary.ElementName.TheVariants as element
use Rattle.text_spec.specs.Definition.{device_read, domain_read}
use Rattle.text_spec.specs.DeviceList.{alone_fault, device_in}
use Rattle.text_spec.specs.DevicePrinted.{device_fits}
use Rattle.text_spec.specs.DeviceText.{disk_of, interface_of}
use Rattle.text_spec.specs.DomainPrinted.{domain_fits}
use Rattle.text_spec.specs.DomainText.{domain_fault, domain_in}
use Rattle.text_spec.specs.DomainValue.{domain_of}
use Rattle.text_spec.specs.Look.{is_element}
use Rattle.text_spec.specs.Table.{fault_of_root, root_fault, told}
use Rattle.text_spec.specs.Text.{most_levels}
use Rattle.text_spec.specs.Tree.{Tree}
use Rattle.text_laws.specs.Given.{IsDomain, IsDevice}
use Rattle.text_laws.specs.Formed.{IsFormed}
use Rattle.text_laws.specs.ReadsAs.{ReadsAsDomain, ReadsAsDevice, IsSound, IsSoundDevice}
use Rattle.text_laws.specs.Texts.{IsDomainText, IsDeviceText}
use Rattle.text_laws.proofs.Found.{Formed}
use Rattle.text_laws.proofs.ReadDevices.{disk_alone, interface_is}
use Rattle.text_laws.proofs.ReadRows.{told_is, fitting_is}
use Rattle.text_laws.proofs.ReadTexts.{disk_texts, interface_texts, domain_texts}
use Rattle.text_laws.proofs.ReadValues.{domain_values}
use Rattle.text_laws.proofs.Whole.{read_good}

formed_by : (t : Tree) → IsFormed t → Formed t
formed_by t f = record { depth = most_levels; is = f.tree }

abbrev Read : Type 0 → Type 0
Read A = Result A DefFault

-- ---- domains
record Good (d : DomainDef) : Type 0 where
  values : IsDomain d
  texts : IsDomainText d

in_by : (t : Tree) (d : DomainDef) (b : Bool) → Formed t → ◌≡◌ {A = Read DomainDef} (if b then told (domain_fault t) (domain_of t) else Err (root_fault t)) (Ok d)
    → Good d
in_by t d true f e =
    let parts = told_is (domain_fault t) (domain_of t) d e in
    subst Good parts.1 (record { values = domain_values t parts.0; texts = domain_texts t f })
in_by t d false f e = absurd cc

domain_in_good : (t : Tree) (d : DomainDef) → Formed t → domain_in t ≡ Ok d → Good d
unfolding domain_in
domain_in_good t d f e = in_by t d (is_element element.Domain t) f e

domain_tree_sound : (t : Tree) (d : DomainDef) → Formed t → domain_read t ≡ Ok d → IsSound d
unfolding domain_read
domain_tree_sound t d f e =
    let parts = fitting_is (fault_of_root kind.TooLong t) domain_fits (domain_in t) d e in
    let good = domain_in_good t d f parts.0 in
    record { values = good.values; texts = good.texts; fitting = parts.1 }

pub domain_sound : (text : List ℕ) (d : DomainDef) → ReadsAsDomain text d → IsSound d
domain_sound text d r = domain_tree_sound r.tree d (formed_by r.tree (read_good text r.tree r.is_tree)) r.is_domain

-- ---- devices
record GoodDevice (d : DeviceDef) : Type 0 where
  values : IsDevice d
  texts : IsDeviceText d

interface_by : (t : Tree) (d : DeviceDef) (b : Bool) → Formed t
    → ◌≡◌ {A = Read DeviceDef} (if b then told (alone_fault of.Interface t) (device.Interface (interface_of t)) else Err (root_fault t)) (Ok d)
    → GoodDevice d
interface_by t d true f e =
    let parts = told_is (alone_fault of.Interface t) (device.Interface (interface_of t)) d e in
    subst GoodDevice parts.1 (record { values = interface_is t; texts = interface_texts t f })
interface_by t d false f e = absurd cc

device_by : (t : Tree) (d : DeviceDef) (a b : Bool) → Formed t
    → ◌≡◌ {A = Read DeviceDef} (if a then told (alone_fault of.Disk t) (device.Disk (disk_of t))
    else (if b then told (alone_fault of.Interface t) (device.Interface (interface_of t)) else Err (root_fault t))) (Ok d)
    → GoodDevice d
device_by t d true b f e =
    let parts = told_is (alone_fault of.Disk t) (device.Disk (disk_of t)) d e in
    subst GoodDevice parts.1 (record { values = disk_alone t parts.0; texts = disk_texts t f })
device_by t d false b f e = interface_by t d b f e

device_in_good : (t : Tree) (d : DeviceDef) → Formed t → device_in t ≡ Ok d → GoodDevice d
unfolding device_in
device_in_good t d f e = device_by t d (is_element element.Disk t) (is_element element.Interface t) f e

device_tree_sound : (t : Tree) (d : DeviceDef) → Formed t → device_read t ≡ Ok d → IsSoundDevice d
unfolding device_read
device_tree_sound t d f e =
    let parts = fitting_is (fault_of_root kind.TooLong t) device_fits (device_in t) d e in
    let good = device_in_good t d f parts.0 in
    record { values = good.values; texts = good.texts; fitting = parts.1 }

pub device_sound : (text : List ℕ) (d : DeviceDef) → ReadsAsDevice text d → IsSoundDevice d
device_sound text d r = device_tree_sound r.tree d (formed_by r.tree (read_good text r.tree r.is_tree)) r.is_device
