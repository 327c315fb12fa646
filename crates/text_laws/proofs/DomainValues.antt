-- The values of a domain that was printed.
use Rattle.std.proofs.Common.{◌≡◌, ℕ, ◌^◌, ◌<◌, min, List, [], ◌∷◌, length, Bool, true, false, Option, Some, None, refl, ◌∙◌, ap, unwrap_or, arith}
use Rattle.std.specs.Prelude.{filter, map, option_map, option_and_then, ◌==◌, nat_lt, codes, if◌then◌else◌}
use Rattle.std.specs.Fmt.{decimal}
use Rattle.std.specs.List.{filter_map, AllByRecursion}
use Rattle.std.proofs.lemmas.Bool.Decides.{nat_tests}
use Rattle.uuid.specs.Text.{parsed}
use Rattle.types_base.specs.declared.domain_def.BootDevice.{BootDevice}
use Rattle.types_base.specs.declared.domain_def.CharacterDevice.{CharacterDevice}
use Rattle.types_base.specs.declared.domain_def.DomainDef.{DomainDef}
use Rattle.types_base.specs.declared.domain_def.Graphics.{Graphics}
use Rattle.types_base.specs.declared.domain_def.LifecycleAction.{LifecycleAction}
use Rattle.types_base.specs.declared.domain_def.LifecycleAction.TheVariants as action
use Rattle.types_base.specs.declared.domain_def.Memballoon.{Memballoon}
use Rattle.types_base.specs.declared.domain_def.Os.{Os}
use Rattle.types_base.specs.declared.script.Script.{Script}
use Rattle.text_spec.specs.declared.row.Source.TheVariants as source
use Rattle.text_spec.specs.declared.vocabulary.AttributeName.TheVariants as attribute
use Rattle.text_spec.specs.declared.vocabulary.ElementName.{ElementName}
use Rattle.text_spec.specs.declared.vocabulary.ElementName.TheVariants as element
use Rattle.text_spec.specs.DevicePrinted.{disk_tree, interface_tree}
use Rattle.text_spec.specs.DeviceText.{disk_of, interface_of}
use Rattle.text_spec.specs.DomainPrinted.{uuid_tree, script_tree, memory_tree, vcpu_tree, boot_tree, os_type_tree, os_tree, character_tree, graphics_tree, memballoon_tree, device_trees, domain_tree}
use Rattle.text_spec.specs.DomainValue.{text_at, own_text, in_devices, memory_in, memory_of, current_memory_of, vcpus_of, current_vcpus_of, script_with, script_of, boot_in, os_of, domain_type_in, lifecycle_in, crash_in, character_device_of, graphics_of, memballoon_of, domain_of}
use Rattle.text_spec.specs.GuestScript.{entries_of, number_within}
use Rattle.text_spec.specs.Look.{is_element, is_attribute, attribute_of, first_of, all_of, all_in, value_in}
use Rattle.text_spec.specs.Spelling.{pairs, worded}
use Rattle.text_spec.specs.Tree.{Tree}
use Rattle.text_spec.specs.Words.{domain_type_word, boot_device_word, lifecycle_action_word}
use Rattle.text_spec.proofs.Seen.{listed-trees}
use Rattle.text_laws.specs.Given.{IsUuidOf, IsWithin, IsDisk, IsInterface, IsDomain}
use Rattle.text_laws.proofs.Lookups.{here, past, alone, other, seek, first_in}
use Rattle.text_laws.proofs.Disks.{option_back, disk_back}
use Rattle.text_laws.proofs.Interfaces.{interface_back}
use Rattle.text_laws.proofs.Figures.{within_back, memory_back, uuid_back, domain_type_back, boot_back, lifecycle_back, crash_back}
use Rattle.text_laws.proofs.Segments.{first_of_list, sought, first_present, sieved, all_back, emulator_sieved, disks_sieved, interfaces_sieved, serials_sieved, consoles_sieved, graphics_sieved, memballoon_sieved}
use Rattle.text_laws.proofs.DomainElements as at

-- ---- general
pub type_is : (d : DomainDef) → attribute_of attribute.Type (domain_tree d) ≡ Some (domain_type_word d.kind)
unfolding domain_tree attribute_of is_attribute
type_is d = refl

type_back : (d : DomainDef) → domain_type_in (domain_tree d) ≡ d.kind
unfolding domain_type_in
type_back d = rw (type_is d, domain_type_back d.kind)

pub name_back : (d : DomainDef) → own_text element.Name (domain_tree d) ≡ Some d.name
name_back d = ap (option_and_then (value_in source.Text)) (at.name_is d)

uuid_by : (first : Option Tree) (uuid : Option (List ℕ)) → first ≡ option_map uuid_tree uuid → IsUuidOf uuid
    → option_and_then parsed (option_and_then (value_in source.Text) first) ≡ uuid
uuid_by first None e is = rw e
uuid_by first (Some u) e is = rw e (uuid_back u is.0 is.1)

text_by : (n : ElementName) (first : Option Tree) (text : Option (List ℕ)) → first ≡ option_map (worded n []) text
    → option_and_then (value_in source.Text) first ≡ text
text_by n first None e = rw e
text_by n first (Some x) e = rw e

-- ---- the script
no_text : (text : List ℕ) → (length text == 0) ≡ true → text ≡ []
no_text [] e = refl
no_text (c ∷ cs) e = absurd (let h : length (c ∷ cs) ≡ 0 = grind (arith, nat_tests) in omega (arith, h))

pub guest_in : (text : List ℕ) → first_of element.Guest (script_tree text) ≡ Some (worded element.Guest [] text)
unfolding is_element
guest_in text = first_in element.Guest element.Metadata [] [] (worded element.Guest [] text ∷ [])

script_same : (s : Script) (text : List ℕ) → s.text ≡ text → entries_of s.text ≡ Some s.entries → script_with text ≡ s
script_same s text e is = rw (← e, is)

script_by : (s : Script) (first : Option Tree) (b : Bool) → (length s.text == 0) ≡ b → entries_of s.text ≡ Some s.entries
    → first ≡ (if b then None else Some (script_tree s.text))
    → script_with (unwrap_or (option_and_then (value_in source.Text) (option_and_then (first_of element.Guest) first)) []) ≡ s
script_by s first true none is e = rw e (script_same s [] (no_text s.text none) is)
script_by s first false none is e = rw (e, guest_in s.text) (script_same s s.text refl is)

script_back : (d : DomainDef) → entries_of d.guest.text ≡ Some d.guest.entries → script_of (domain_tree d) ≡ d.guest
unfolding script_of
script_back d is = script_by d.guest (first_of element.Metadata (domain_tree d)) (length d.guest.text == 0) refl is (at.metadata_is d)

-- ---- memory and processors
pub unit_is : (n : ElementName) (k : ℕ) → attribute_of attribute.Unit (memory_tree n k) ≡ Some (codes "KiB")
unfolding attribute_of is_attribute
unit_is n k = refl

memory_in_back : (n : ElementName) (k : ℕ) → IsWithin 1 (2 ^ 40) k → memory_in (memory_tree n k) ≡ Some k
memory_in_back n k is = rw (unit_is n k, memory_back k is)

memory_is : (d : DomainDef) → IsWithin 1 (2 ^ 40) d.memory → memory_of (domain_tree d) ≡ d.memory
unfolding memory_of
memory_is d is = rw (at.memory_is d, memory_in_back element.Memory d.memory is)

current_memory_is : (d : DomainDef) → IsWithin 1 (2 ^ 40) d.memory → IsWithin 1 d.memory d.current_memory
    → current_memory_of (domain_tree d) ≡ d.current_memory
unfolding current_memory_of
current_memory_is d is less =
    let current : IsWithin 1 (2 ^ 40) d.current_memory = (less.0, omega (arith, less.1, is.1)) in
    let same : min d.memory d.current_memory ≡ d.current_memory = omega (arith, less.1) in
    rw (memory_is d is, at.current_memory_is d, memory_in_back element.CurrentMemory d.current_memory current) same

vcpus_is : (d : DomainDef) → IsWithin 1 255 d.vcpus → vcpus_of (domain_tree d) ≡ d.vcpus
unfolding vcpus_of
vcpus_is d is =
    let small : d.vcpus < 10 ^ 19 = omega (arith, is.1) in
    rw (at.vcpu_is d, within_back 1 255 d.vcpus small is)

module _ (most current : ℕ) where
  pub current_by : (b : Bool) → nat_lt current most ≡ b
      → attribute_of attribute.Current (vcpu_tree most current) ≡ (if b then Some (decimal current) else None)
  unfolding attribute_of is_attribute
  current_by true e = rw e
  current_by false e = rw e

  current_value : (b : Bool) → nat_lt current most ≡ b → IsWithin 1 most current → most < 10 ^ 19
      → unwrap_or (option_and_then (number_within 1 most) (attribute_of attribute.Current (vcpu_tree most current))) most ≡ current
  current_value true e is small =
      let low : current < 10 ^ 19 = omega (arith, is.1, small) in
      rw (current_by true e, within_back 1 most current low is)
  current_value false e is small =
      let same : most ≡ current = grind (arith, nat_tests, is.1) in
      rw (current_by false e) same

current_vcpus_is : (d : DomainDef) → IsWithin 1 255 d.vcpus → IsWithin 1 d.vcpus d.current_vcpus
    → current_vcpus_of (domain_tree d) ≡ d.current_vcpus
unfolding current_vcpus_of
current_vcpus_is d is less =
    let small : d.vcpus < 10 ^ 19 = omega (arith, is.1) in
    rw (vcpus_is d is, at.vcpu_is d) (current_value d.vcpus d.current_vcpus (nat_lt d.current_vcpus d.vcpus) refl less small)

-- ---- the system
module _ (os : Os) where
  pub type_in_os : first_of element.Type (os_tree os) ≡ Some (os_type_tree os)
  unfolding os_tree is_element
  type_in_os = first_in element.Type element.Os [] [] (os_type_tree os ∷ map boot_tree os.boot)

  arch_is : attribute_of attribute.Arch (os_type_tree os) ≡ os.arch
  unfolding attribute_of is_attribute
  arch_is = here attribute.Arch os.arch (pairs attribute.Machine os.machine) (λ x. refl) (other attribute.Arch attribute.Machine os.machine (λ x. refl))

  machine_is : attribute_of attribute.Machine (os_type_tree os) ≡ os.machine
  unfolding attribute_of is_attribute
  machine_is = past attribute.Machine attribute.Arch os.arch (pairs attribute.Machine os.machine) (λ x. refl) ∙ alone attribute.Machine os.machine (λ x. refl)

  pub boot_in_os : all_of element.Boot (os_tree os) ≡ map boot_tree os.boot
  unfolding os_tree all_of is_element
  boot_in_os =
      ap (filter (is_element element.Boot)) (listed-trees (os_type_tree os ∷ map boot_tree os.boot))
      ∙ sieved element.Boot boot_tree true (λ x. refl) os.boot

pub boot_dev : (b : BootDevice) → attribute_of attribute.Dev (boot_tree b) ≡ Some (boot_device_word b)
unfolding attribute_of is_attribute
boot_dev b = refl

boot_in_back : (b : BootDevice) → boot_in (boot_tree b) ≡ Some b
boot_in_back b = rw (boot_dev b, boot_back b)

boots_back : (bs : List BootDevice) → filter_map boot_in (map boot_tree bs) ≡ bs
boots_back [] = refl
boots_back (b ∷ bs) = rw (boot_in_back b) (ap (λ xs. b ∷ xs) (boots_back bs))

os_back : (d : DomainDef) → os_of (domain_tree d) ≡ d.os
unfolding os_of
os_back d = rw (at.os_is d, type_in_os d.os, arch_is d.os, machine_is d.os, boot_in_os d.os, boots_back d.os.boot)

-- ---- what follows when the guest goes down
lifecycle_is : (n : ElementName) (a default : LifecycleAction) (t : Tree) → first_of n t ≡ Some (worded n [] (lifecycle_action_word a))
    → lifecycle_in n default t ≡ a
unfolding lifecycle_in
lifecycle_is n a default t e = rw (e, lifecycle_back a)

crash_is : (d : DomainDef) → crash_in (domain_tree d) ≡ d.on_crash
unfolding crash_in
crash_is d = rw (at.on_crash_is d, crash_back d.on_crash)

-- ---- devices
inside_all : (n : ElementName) (ts : List Tree) → all_in n (at.gathered_of ts) ≡ filter (is_element n) ts
unfolding all_of
inside_all n [] = refl
inside_all n (t ∷ ts) = ap (filter (is_element n)) (listed-trees (t ∷ ts))

inside_first : (n : ElementName) (ts : List Tree) → option_and_then (first_of n) (at.gathered_of ts) ≡ seek n ts
inside_first n [] = refl
inside_first n (t ∷ ts) = first_in n element.Devices [] [] (t ∷ ts)

module _ (d : DomainDef) where
  pub all_devices : (n : ElementName) → all_in n (first_of element.Devices (domain_tree d)) ≡ filter (is_element n) (device_trees d)
  all_devices n = ap (all_in n) (at.devices_is d) ∙ inside_all n (device_trees d)

  pub first_device : (n : ElementName) → option_and_then (first_of n) (first_of element.Devices (domain_tree d)) ≡ first_of_list (filter (is_element n) (device_trees d))
  first_device n = ap (option_and_then (first_of n)) (at.devices_is d) ∙ inside_first n (device_trees d) ∙ sought n (device_trees d)

character_back : (n : ElementName) (c : CharacterDevice) → character_device_of (character_tree n c) ≡ c
unfolding attribute_of is_attribute
character_back n c = rw (alone attribute.Type c.kind (λ x. refl))

graphics_back : (g : Graphics) → graphics_of (graphics_tree g) ≡ g
unfolding attribute_of is_attribute
graphics_back g =
    let kind = here attribute.Type g.kind (pairs attribute.Port g.port) (λ x. refl) (other attribute.Type attribute.Port g.port (λ x. refl)) in
    let port = past attribute.Port attribute.Type g.kind (pairs attribute.Port g.port) (λ x. refl) ∙ alone attribute.Port g.port (λ x. refl) in
    rw (kind, port)

memballoon_back : (m : Memballoon) → memballoon_of (memballoon_tree m) ≡ m
unfolding attribute_of is_attribute
memballoon_back m = rw (alone attribute.Model m.model (λ x. refl))

always : {A : Type 0} (xs : List A) → AllByRecursion (λ x. Unit {0}) xs
always [] = tt
always (x ∷ xs) = (tt, always xs)

plain_back : {A : Type 0} (of : Tree → A) (tree : A → Tree) → ((x : A) → of (tree x) ≡ x) → (xs : List A) → map of (map tree xs) ≡ xs
plain_back of tree back xs = all_back of tree (λ x. Unit {0}) (λ x u. back x) xs (always xs)

module _ (d : DomainDef) (is : IsDomain d) where
  emulator_back : text_at (in_devices element.Emulator) (domain_tree d) ≡ d.emulator
  emulator_back =
      text_by element.Emulator _ d.emulator
      (first_device d element.Emulator ∙ ap first_of_list (emulator_sieved d) ∙ first_present (worded element.Emulator []) d.emulator)

  disks_back : map disk_of (all_in element.Disk (first_of element.Devices (domain_tree d))) ≡ d.disks
  disks_back = ap (map disk_of) (all_devices d element.Disk ∙ disks_sieved d) ∙ all_back disk_of disk_tree IsDisk (λ x p. disk_back x) d.disks is.disks

  interfaces_back : map interface_of (all_in element.Interface (first_of element.Devices (domain_tree d))) ≡ d.interfaces
  interfaces_back =
      ap (map interface_of) (all_devices d element.Interface ∙ interfaces_sieved d)
      ∙ all_back interface_of interface_tree IsInterface interface_back d.interfaces is.interfaces

  serials_back : map character_device_of (all_in element.Serial (first_of element.Devices (domain_tree d))) ≡ d.serials
  serials_back =
      ap (map character_device_of) (all_devices d element.Serial ∙ serials_sieved d)
      ∙ plain_back character_device_of (character_tree element.Serial) (character_back element.Serial) d.serials

  consoles_back : map character_device_of (all_in element.Console (first_of element.Devices (domain_tree d))) ≡ d.consoles
  consoles_back =
      ap (map character_device_of) (all_devices d element.Console ∙ consoles_sieved d)
      ∙ plain_back character_device_of (character_tree element.Console) (character_back element.Console) d.consoles

  screens_back : map graphics_of (all_in element.Graphics (first_of element.Devices (domain_tree d))) ≡ d.graphics
  screens_back = ap (map graphics_of) (all_devices d element.Graphics ∙ graphics_sieved d) ∙ plain_back graphics_of graphics_tree graphics_back d.graphics

  balloon_back : option_map memballoon_of (option_and_then (first_of element.Memballoon) (first_of element.Devices (domain_tree d))) ≡ d.memballoon
  balloon_back =
      ap (option_map memballoon_of)
      (first_device d element.Memballoon ∙ ap first_of_list (memballoon_sieved d) ∙ first_present memballoon_tree d.memballoon)
      ∙ option_back memballoon_of memballoon_tree d.memballoon memballoon_back

  pub domain_back : domain_of (domain_tree d) ≡ d
  unfolding domain_of
  domain_back =
      let t = domain_tree d in
      rw (
        type_back d,
        ap (λ o. unwrap_or o []) (name_back d),
        uuid_by (first_of element.Uuid t) d.uuid (at.uuid_is d) is.uuid,
        text_by element.Title (first_of element.Title t) d.title (at.title_is d),
        text_by element.Description (first_of element.Description t) d.description (at.description_is d),
        script_back d is.guest,
        memory_is d is.memory,
        current_memory_is d is.memory is.current_memory,
        vcpus_is d is.vcpus,
        current_vcpus_is d is.vcpus is.current_vcpus,
        os_back d,
        lifecycle_is element.OnPoweroff d.on_poweroff action.Destroy t (at.on_poweroff_is d),
        lifecycle_is element.OnReboot d.on_reboot action.Restart t (at.on_reboot_is d),
        crash_is d,
        emulator_back,
        disks_back,
        interfaces_back,
        serials_back,
        consoles_back,
        screens_back,
        balloon_back,
      )
