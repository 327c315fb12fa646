-- A domain that was printed has no fault.
use Rattle.std.proofs.Common.{◌≡◌, ℕ, ◌+◌, ◌^◌, ◌<◌, ◌≤◌, List, [], ◌∷◌, length, Bool, true, false, Option, Some, None, Ok, refl, ◌∙◌, ap, arith}
use Rattle.std.specs.Prelude.{map, option_map, option_and_then, ◌==◌, nat_lt, nat_le, if◌then◌else◌}
use Rattle.std.specs.Fmt.{decimal}
use Rattle.std.specs.List.{AllByRecursion}
use Rattle.std.specs.Char.{to_ascii_lowercase}
use Rattle.std.proofs.lemmas.Bool.Decides.{nat_tests}
use Rattle.std.proofs.lemmas.List.{length-map}
use Rattle.uuid.specs.Text.{hyphenated_text, lower}
use Rattle.types_base.specs.Name.{bad_place}
use Rattle.types_base.specs.declared.device_def.Disk.{Disk}
use Rattle.types_base.specs.declared.device_def.Interface.{Interface}
use Rattle.types_base.specs.declared.domain_def.BootDevice.{BootDevice}
use Rattle.types_base.specs.declared.domain_def.DomainDef.{DomainDef}
use Rattle.types_base.specs.declared.domain_def.LifecycleAction.{LifecycleAction}
use Rattle.types_base.specs.declared.mac.Mac.{Mac}
use Rattle.types_base.specs.declared.script.Script.{Script}
use Rattle.text_spec.specs.declared.device_kind.DeviceKind.TheVariants as of
use Rattle.text_spec.specs.declared.row.Content.{Content}
use Rattle.text_spec.specs.declared.row.Content.TheVariants as content
use Rattle.text_spec.specs.declared.row.Place.{Place}
use Rattle.text_spec.specs.declared.row.Place.TheVariants as place
use Rattle.text_spec.specs.declared.row.Source.{Source}
use Rattle.text_spec.specs.declared.row.Source.TheVariants as source
use Rattle.text_spec.specs.declared.vocabulary.AttributeName.TheVariants as attribute
use Rattle.text_spec.specs.declared.vocabulary.ElementName.{ElementName}
use Rattle.text_spec.specs.declared.vocabulary.ElementName.TheVariants as element
use Rattle.text_spec.specs.Content.{content_fault}
use Rattle.text_spec.specs.DeviceList.{key_in, key_fault, with_key, device_fault, devices_fault}
use Rattle.text_spec.specs.DevicePrinted.{mac_tree, disk_tree, interface_tree}
use Rattle.text_spec.specs.DomainPrinted.{uuid_tree, script_tree, memory_tree, vcpu_tree, boot_tree, os_type_tree, domain_tree}
use Rattle.text_spec.specs.DomainText.{domain_rows, devices_at, domain_fault, domain_in}
use Rattle.text_spec.specs.GuestScript.{entries_of}
use Rattle.text_spec.specs.Look.{is_element, attribute_of, first_of, element_at, value_in}
use Rattle.text_spec.specs.Spelling.{worded}
use Rattle.types_base.specs.Mac.{mac_text}
use Rattle.text_spec.specs.Table.{needed, optional, each, wrong_in_each, wrong_at, rows_fault}
use Rattle.text_spec.specs.Tree.{Tree}
use Rattle.text_spec.specs.Words.{domain_type_word, lifecycle_action_word, crash_action_word}
use Rattle.text_laws.specs.Given.{IsUuidOf, IsWithin, IsDisk, IsInterface, AreDisksApart, AreInterfacesApart, IsApart, mac_key, with_mac_key, IsDomain}
use Rattle.text_laws.proofs.Rows.{clean, none_left, text_row, optional_row, needed_row, absent_row}
use Rattle.text_laws.proofs.Figures.{number_back, memory_back, uuid_back, domain_type_back, boot_back, lifecycle_back, crash_back}
use Rattle.text_laws.proofs.Disks.{key_found}
use Rattle.text_laws.proofs.Interfaces.{mac_found, address_found}
use Rattle.text_laws.proofs.Devices.{disk_clean, interface_clean}
use Rattle.text_laws.proofs.Segments.{disks_sieved, interfaces_sieved}
use Rattle.text_laws.proofs.DomainElements as at
use Rattle.text_laws.proofs.DomainValues.{type_is, guest_in, unit_is, current_by, type_in_os, boot_in_os, boot_dev, all_devices, domain_back}

-- an element whose value is absent, where it may be
no_value : (p : Place) (s : Source) (c : Content) (t first : Tree) → element_at p t ≡ Some first → value_in s first ≡ None → wrong_at (optional p s c) t ≡ None
unfolding wrong_at
no_value p s c t first at is = rw (at, is)

is_le : (a b : ℕ) → a ≤ b → nat_le a b ≡ true
is_le a b h = grind (arith, nat_tests)

uuid_row : (t : Tree) (uuid : Option (List ℕ)) → first_of element.Uuid t ≡ option_map uuid_tree uuid → IsUuidOf uuid
    → wrong_at (optional (place.Child element.Uuid) source.Text content.Uuid) t ≡ None
unfolding content_fault
uuid_row t None e is = absent_row (place.Child element.Uuid) source.Text content.Uuid t e
uuid_row t (Some u) e is =
    optional_row (place.Child element.Uuid) source.Text content.Uuid t (uuid_tree u) (hyphenated_text lower u) e refl (rw (uuid_back u is.0 is.1))

script_row : (t : Tree) (s : Script) (b : Bool) → first_of element.Metadata t ≡ (if b then None else Some (script_tree s.text))
    → entries_of s.text ≡ Some s.entries → wrong_at (optional (place.Inside element.Metadata element.Guest) source.Text content.Script) t ≡ None
unfolding content_fault
script_row t s true e is =
    absent_row (place.Inside element.Metadata element.Guest) source.Text content.Script t (rw e)
script_row t s false e is =
    optional_row (place.Inside element.Metadata element.Guest) source.Text content.Script t (worded element.Guest [] s.text) s.text (rw e (guest_in s.text)) refl (rw is)

memory_good : (n : ElementName) (k : ℕ) → IsWithin 1 (2 ^ 40) k → content_fault content.Memory (memory_tree n k) (decimal k) ≡ None
unfolding content_fault
memory_good n k is = rw (unit_is n k, memory_back k is)

vcpus_good : (t : Tree) (n : ℕ) → IsWithin 1 255 n → content_fault content.Vcpus t (decimal n) ≡ None
unfolding content_fault
vcpus_good t n is =
    let small : n < 10 ^ 19 = omega (arith, is.1) in
    rw (number_back n small, is_le 1 n is.0, is_le n 255 is.1)

module _ (t : Tree) (most current : ℕ) (at_vcpu : first_of element.Vcpu t ≡ Some (vcpu_tree most current)) (small : most < 10 ^ 19) (is : IsWithin 1 most current) where
  current_good : content_fault content.CurrentVcpus (vcpu_tree most current) (decimal current) ≡ None
  unfolding content_fault
  current_good =
      let low : current < 10 ^ 19 = omega (arith, is.1, small) in
      rw (number_back current low, number_back most small, is_le 1 current is.0, is_le current most is.1)

  current_row : (b : Bool) → nat_lt current most ≡ b
      → wrong_at (optional (place.Child element.Vcpu) (source.Attribute attribute.Current) content.CurrentVcpus) t ≡ None
  current_row true e =
      optional_row (place.Child element.Vcpu) (source.Attribute attribute.Current) content.CurrentVcpus t (vcpu_tree most current) (decimal current) at_vcpu
      (current_by most current true e) current_good
  current_row false e =
      no_value (place.Child element.Vcpu) (source.Attribute attribute.Current) content.CurrentVcpus t (vcpu_tree most current) at_vcpu (current_by most current false e)

-- ---- boot devices
boots_good : (p : Place) (bs : List BootDevice) → wrong_in_each (each p (source.Attribute attribute.Dev) content.BootDevice) (map boot_tree bs) ≡ None
unfolding content_fault
boots_good p [] = refl
boots_good p (b ∷ bs) = rw (boot_dev b, boot_back b) (boots_good p bs)

boots_row : (d : DomainDef) → wrong_at (each (place.Inside element.Os element.Boot) (source.Attribute attribute.Dev) content.BootDevice) (domain_tree d) ≡ None
unfolding wrong_at
boots_row d = rw (at.os_is d, boot_in_os d.os) (boots_good (place.Inside element.Os element.Boot) d.os.boot)

-- ---- what follows when the guest goes down
action_row : (n : ElementName) (a : LifecycleAction) (t : Tree) → first_of n t ≡ Some (worded n [] (lifecycle_action_word a))
    → wrong_at (optional (place.Child n) source.Text content.LifecycleAction) t ≡ None
unfolding content_fault
action_row n a t e =
    optional_row (place.Child n) source.Text content.LifecycleAction t (worded n [] (lifecycle_action_word a)) (lifecycle_action_word a) e refl (rw (lifecycle_back a))

crash_row : (d : DomainDef) → wrong_at (optional (place.Child element.OnCrash) source.Text content.CrashAction) (domain_tree d) ≡ None
unfolding content_fault
crash_row d =
    optional_row (place.Child element.OnCrash) source.Text content.CrashAction (domain_tree d) (worded element.OnCrash [] (crash_action_word d.on_crash))
    (crash_action_word d.on_crash) (at.on_crash_is d) refl (rw (crash_back d.on_crash))

type_row : (d : DomainDef) → wrong_at (needed place.Here (source.Attribute attribute.Type) content.DomainType) (domain_tree d) ≡ None
unfolding content_fault
type_row d =
    needed_row place.Here (source.Attribute attribute.Type) content.DomainType (domain_tree d) (domain_tree d) (domain_type_word d.kind) refl (type_is d)
    (rw (domain_type_back d.kind))

name_row : (d : DomainDef) → bad_place d.name ≡ None → wrong_at (needed (place.Child element.Name) source.Text content.Name) (domain_tree d) ≡ None
unfolding content_fault
name_row d is =
    needed_row (place.Child element.Name) source.Text content.Name (domain_tree d) (worded element.Name [] d.name) d.name (at.name_is d) refl (rw is)

os_row : (d : DomainDef) → wrong_at (needed (place.Inside element.Os element.Type) source.Text content.Text) (domain_tree d) ≡ None
unfolding content_fault
os_row d =
    needed_row (place.Inside element.Os element.Type) source.Text content.Text (domain_tree d) (os_type_tree d.os) d.os.kind (rw (at.os_is d) (type_in_os d.os)) refl refl

module _ (names : List ElementName) (d : DomainDef) (is : IsDomain d) where
  rows_clean : rows_fault names domain_rows (domain_tree d) ≡ None
  unfolding domain_rows
  rows_clean =
      let t = domain_tree d in
      let current : IsWithin 1 (2 ^ 40) d.current_memory = (is.current_memory.0, omega (arith, is.current_memory.1, is.memory.1)) in
      let small : d.vcpus < 10 ^ 19 = omega (arith, is.vcpus.1) in
      clean names _ _ t (type_row d)
      (clean names _ _ t (name_row d is.name)
      (clean names _ _ t (uuid_row t d.uuid (at.uuid_is d) is.uuid)
      (clean names _ _ t (text_row (place.Child element.Title) source.Text t)
      (clean names _ _ t (text_row (place.Child element.Description) source.Text t)
      (clean names _ _ t (script_row t d.guest (length d.guest.text == 0) (at.metadata_is d) is.guest)
      (clean names _ _ t (needed_row (place.Child element.Memory) source.Text content.Memory t (memory_tree element.Memory d.memory) (decimal d.memory) (at.memory_is d) refl
      (memory_good element.Memory d.memory is.memory))
      (clean names _ _ t (optional_row (place.Child element.CurrentMemory) source.Text content.Memory t (memory_tree element.CurrentMemory d.current_memory) (decimal d.current_memory)
      (at.current_memory_is d) refl (memory_good element.CurrentMemory d.current_memory current))
      (clean names _ _ t (optional_row (place.Child element.Vcpu) source.Text content.Vcpus t (vcpu_tree d.vcpus d.current_vcpus) (decimal d.vcpus) (at.vcpu_is d) refl
      (vcpus_good (vcpu_tree d.vcpus d.current_vcpus) d.vcpus is.vcpus))
      (clean names _ _ t (current_row t d.vcpus d.current_vcpus (at.vcpu_is d) small is.current_vcpus (nat_lt d.current_vcpus d.vcpus) refl)
      (clean names _ _ t (os_row d)
      (clean names _ _ t (text_row (place.Inside element.Os element.Type) (source.Attribute attribute.Arch) t)
      (clean names _ _ t (text_row (place.Inside element.Os element.Type) (source.Attribute attribute.Machine) t)
      (clean names _ _ t (boots_row d)
      (clean names _ _ t (action_row element.OnPoweroff d.on_poweroff t (at.on_poweroff_is d))
      (clean names _ _ t (action_row element.OnReboot d.on_reboot t (at.on_reboot_is d))
      (clean names _ _ t (crash_row d)
      (clean names _ _ t (text_row (place.Inside element.Devices element.Emulator) source.Text t)
      (none_left names t))))))))))))))))))

-- ---- devices
module _ (names : List ElementName) where
  disks_clean : (keys : List (List ℕ)) (ds : List Disk) → AllByRecursion IsDisk ds → AreDisksApart keys ds
      → devices_fault of.Disk names keys (map disk_tree ds) ≡ None
  unfolding devices_fault device_fault key_in
  disks_clean keys [] all apart = refl
  disks_clean keys (d ∷ ds) all apart =
      rw (disk_clean names d all.0, key_found d, apart.0) (disks_clean (d.target.dev ∷ keys) ds all.1 apart.1)

  address_by : (first : Option Tree) (own : Option Mac) → first ≡ option_map mac_tree own
      → option_and_then (attribute_of attribute.Address) first ≡ option_map mac_text own
  address_by first None e = rw e
  address_by first (Some m) e = rw e (address_found m)

  key_by : (i : Interface) (own : Option Mac) → i.mac ≡ own → key_in of.Interface (interface_tree i) ≡ option_map mac_key own
  unfolding key_in
  key_by i None e = ap (option_map (λ text. map to_ascii_lowercase text)) (address_by (first_of element.Mac (interface_tree i)) None (mac_found i ∙ ap (option_map mac_tree) e))
  key_by i (Some m) e = ap (option_map (λ text. map to_ascii_lowercase text)) (address_by (first_of element.Mac (interface_tree i)) (Some m) (mac_found i ∙ ap (option_map mac_tree) e))

  no_clash : (keys : List (List ℕ)) (own : Option Mac) → IsApart keys own → key_fault of.Interface names keys (option_map mac_key own) ≡ None
  no_clash keys None apart = refl
  no_clash keys (Some m) apart = rw apart

  more_keys : (keys : List (List ℕ)) (own : Option Mac) → with_key (option_map mac_key own) keys ≡ with_mac_key own keys
  more_keys keys None = refl
  more_keys keys (Some m) = refl

  interfaces_clean : (keys : List (List ℕ)) (is : List Interface) → AllByRecursion IsInterface is → AreInterfacesApart keys is
      → devices_fault of.Interface names keys (map interface_tree is) ≡ None
  unfolding devices_fault device_fault
  interfaces_clean keys [] all apart = refl
  interfaces_clean keys (i ∷ is) all apart =
      rw (interface_clean names i all.0, key_by i i.mac refl, no_clash keys i.mac apart.0, more_keys keys i.mac)
      (interfaces_clean (with_mac_key i.mac keys) is all.1 apart.1)

module _ (d : DomainDef) (is : IsDomain d) where
  all_disks : devices_at of.Disk (domain_tree d) ≡ map disk_tree d.disks
  all_disks = all_devices d element.Disk ∙ disks_sieved d

  all_interfaces : devices_at of.Interface (domain_tree d) ≡ map interface_tree d.interfaces
  all_interfaces = all_devices d element.Interface ∙ interfaces_sieved d

  few : nat_lt 30 (length d.disks + length d.interfaces) ≡ false
  few = grind (arith, nat_tests, is.few)

  no_fault : domain_fault (domain_tree d) ≡ None
  unfolding domain_fault
  no_fault =
      rw (
        rows_clean (element.Domain ∷ []) d is,
        all_disks,
        disks_clean (element.Domain ∷ element.Devices ∷ element.Disk ∷ []) [] d.disks is.disks is.disks_apart,
        all_interfaces,
        interfaces_clean (element.Domain ∷ element.Devices ∷ element.Interface ∷ []) [] d.interfaces is.interfaces is.interfaces_apart,
        length-map d.disks disk_tree,
        length-map d.interfaces interface_tree,
        few,
      )

is_domain : (d : DomainDef) → is_element element.Domain (domain_tree d) ≡ true
unfolding is_element domain_tree
is_domain d = refl

pub domain_read_back : (d : DomainDef) → IsDomain d → domain_in (domain_tree d) ≡ Ok d
unfolding domain_in
domain_read_back d is = rw (is_domain d, no_fault d is, domain_back d is)
