-- Disks that were printed are read.
use Rattle.std.proofs.Common.{◌≡◌, [], ◌∷◌, ◌++◌, Option, Some, None, refl, ◌∙◌, ap}
use Rattle.std.specs.Prelude.{option_map, is_some}
use Rattle.types_base.specs.declared.device_def.Disk.{Disk}
use Rattle.types_base.specs.declared.device_def.DiskDevice.{DiskDevice}
use Rattle.types_base.specs.declared.device_def.DiskDevice.TheVariants as device
use Rattle.types_base.specs.declared.device_def.DiskDriver.{DiskDriver}
use Rattle.types_base.specs.declared.device_def.DiskSource.{DiskSource}
use Rattle.types_base.specs.declared.device_def.DiskTarget.{DiskTarget}
use Rattle.types_base.specs.declared.device_def.DiskType.{DiskType}
use Rattle.types_base.specs.declared.device_def.DiskType.TheVariants as type
use Rattle.text_spec.specs.declared.vocabulary.AttributeName.TheVariants as attribute
use Rattle.text_spec.specs.declared.vocabulary.ElementName.TheVariants as element
use Rattle.text_spec.specs.DevicePrinted.{driver_tree, disk_source_tree, target_tree, disk_attributes, disk_children, disk_tree}
use Rattle.text_spec.specs.DeviceText.{driver_of, disk_source_of, target_dev, target_of, disk_of}
use Rattle.text_spec.specs.Look.{is_element, is_attribute, attribute_of, first_of}
use Rattle.text_spec.specs.Spelling.{pairs, present, flagged}
use Rattle.text_spec.specs.Tree.{Tree}
use Rattle.text_spec.specs.Words.{disk_type_word, disk_type_of, disk_device_word, disk_device_of}
use Rattle.text_laws.proofs.Lookups.{here, past, alone, other, past_pair, first_in, found, passed, found_tree, passed_tree, flag_back, flag_passed}

-- ---- the elements in a disk's
driver_back : (d : DiskDriver) → driver_of (driver_tree d) ≡ d
unfolding attribute_of is_attribute
driver_back d =
    let name = here attribute.Name d.name (pairs attribute.Type d.kind) (λ x. refl) (other attribute.Name attribute.Type d.kind (λ x. refl)) in
    let kind = past attribute.Type attribute.Name d.name (pairs attribute.Type d.kind) (λ x. refl) ∙ alone attribute.Type d.kind (λ x. refl) in
    rw (name, kind)

source_back : (s : DiskSource) → disk_source_of (disk_source_tree s) ≡ s
unfolding attribute_of is_attribute
source_back s =
    let volumes = pairs attribute.Volume s.volume in
    let pools = pairs attribute.Pool s.pool ++ volumes in
    let devs = pairs attribute.Dev s.dev ++ pools in
    let file = here attribute.File s.file devs (λ x. refl)
    (past attribute.File attribute.Dev s.dev pools (λ x. refl) ∙ past attribute.File attribute.Pool s.pool volumes (λ x. refl) ∙ other attribute.File attribute.Volume s.volume (λ x. refl)) in
    let dev = past attribute.Dev attribute.File s.file devs (λ x. refl)
    ∙ here attribute.Dev s.dev pools (λ x. refl) (past attribute.Dev attribute.Pool s.pool volumes (λ x. refl) ∙ other attribute.Dev attribute.Volume s.volume (λ x. refl)) in
    let pool = past attribute.Pool attribute.File s.file devs (λ x. refl) ∙ past attribute.Pool attribute.Dev s.dev pools (λ x. refl)
    ∙ here attribute.Pool s.pool volumes (λ x. refl) (other attribute.Pool attribute.Volume s.volume (λ x. refl)) in
    let volume = past attribute.Volume attribute.File s.file devs (λ x. refl) ∙ past attribute.Volume attribute.Dev s.dev pools (λ x. refl)
    ∙ past attribute.Volume attribute.Pool s.pool volumes (λ x. refl) ∙ alone attribute.Volume s.volume (λ x. refl) in
    rw (file, dev, pool, volume)

pub type_back : (k : DiskType) → disk_type_of (disk_type_word k) ≡ Some k
unfolding disk_type_of
type_back type.File = refl
type_back type.Block = refl
type_back type.Volume = refl

pub device_back : (k : DiskDevice) → disk_device_of (disk_device_word k) ≡ Some k
unfolding disk_device_of
device_back device.Disk = refl
device_back device.Cdrom = refl
device_back device.Lun = refl
device_back device.Floppy = refl

-- ---- a disk
module _ (d : Disk) where
  driver_found : first_of element.Driver (disk_tree d) ≡ option_map driver_tree d.driver
  unfolding disk_tree is_element
  driver_found =
      let last = target_tree d.target ∷ flagged element.Readonly d.readonly in
      first_in element.Driver element.Disk (disk_attributes d) [] (disk_children d)
      ∙ found element.Driver driver_tree d.driver (present disk_source_tree d.source ++ last) (λ x. refl)
      (passed element.Driver disk_source_tree d.source last (λ x. refl)
      ∙ passed_tree element.Driver (target_tree d.target) (flagged element.Readonly d.readonly) refl
      ∙ flag_passed element.Driver element.Readonly d.readonly refl)

  source_found : first_of element.Source (disk_tree d) ≡ option_map disk_source_tree d.source
  unfolding disk_tree is_element
  source_found =
      let last = target_tree d.target ∷ flagged element.Readonly d.readonly in
      first_in element.Source element.Disk (disk_attributes d) [] (disk_children d)
      ∙ passed element.Source driver_tree d.driver (present disk_source_tree d.source ++ last) (λ x. refl)
      ∙ found element.Source disk_source_tree d.source last (λ x. refl)
      (passed_tree element.Source (target_tree d.target) (flagged element.Readonly d.readonly) refl
      ∙ flag_passed element.Source element.Readonly d.readonly refl)

  pub target_found : first_of element.Target (disk_tree d) ≡ Some (target_tree d.target)
  unfolding disk_tree is_element
  target_found =
      let last = target_tree d.target ∷ flagged element.Readonly d.readonly in
      first_in element.Target element.Disk (disk_attributes d) [] (disk_children d)
      ∙ passed element.Target driver_tree d.driver (present disk_source_tree d.source ++ last) (λ x. refl)
      ∙ passed element.Target disk_source_tree d.source last (λ x. refl)
      ∙ found_tree element.Target (target_tree d.target) (flagged element.Readonly d.readonly) refl

  readonly_found : is_some (first_of element.Readonly (disk_tree d)) ≡ d.readonly
  unfolding disk_tree is_element
  readonly_found =
      let last = target_tree d.target ∷ flagged element.Readonly d.readonly in
      ap is_some (first_in element.Readonly element.Disk (disk_attributes d) [] (disk_children d)
      ∙ passed element.Readonly driver_tree d.driver (present disk_source_tree d.source ++ last) (λ x. refl)
      ∙ passed element.Readonly disk_source_tree d.source last (λ x. refl)
      ∙ passed_tree element.Readonly (target_tree d.target) (flagged element.Readonly d.readonly) refl)
      ∙ flag_back element.Readonly d.readonly refl

  pub type_found : attribute_of attribute.Type (disk_tree d) ≡ Some (disk_type_word d.kind)
  unfolding disk_tree attribute_of is_attribute
  type_found = refl

  pub device_found : attribute_of attribute.Device (disk_tree d) ≡ Some (disk_device_word d.device)
  unfolding disk_tree attribute_of is_attribute
  device_found = refl

pub target_dev_found : (t : DiskTarget) → attribute_of attribute.Dev (target_tree t) ≡ Some t.dev
unfolding attribute_of is_attribute
target_dev_found t = refl

target_bus_found : (t : DiskTarget) → attribute_of attribute.Bus (target_tree t) ≡ t.bus
unfolding attribute_of is_attribute
target_bus_found t =
    past_pair attribute.Bus attribute.Dev t.dev (pairs attribute.Bus t.bus) (λ x. refl) ∙ alone attribute.Bus t.bus (λ x. refl)

pub key_found : (d : Disk) → target_dev (disk_tree d) ≡ Some d.target.dev
key_found d = rw (target_found d) (target_dev_found d.target)

pub option_back : {A : Type 0} (of : Tree → A) (tree : A → Tree) (part : Option A) → ((x : A) → of (tree x) ≡ x)
    → option_map of (option_map tree part) ≡ part
option_back of tree None back = refl
option_back of tree (Some x) back = ap (λ y. Some y) (back x)

target_back : (d : Disk) → target_of (disk_tree d) ≡ d.target
target_back d = rw (target_found d, target_dev_found d.target, target_bus_found d.target)

pub disk_back : (d : Disk) → disk_of (disk_tree d) ≡ d
unfolding disk_of
disk_back d =
    let driver = ap (option_map driver_of) (driver_found d) ∙ option_back driver_of driver_tree d.driver driver_back in
    let source = ap (option_map disk_source_of) (source_found d) ∙ option_back disk_source_of disk_source_tree d.source source_back in
    rw (type_found d, type_back d.kind, device_found d, device_back d.device, driver, source, target_back d, readonly_found d)
