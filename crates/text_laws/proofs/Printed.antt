-- The trees that definitions are printed as are formed.
use Rattle.std.proofs.Common.{◌≡◌, ℕ, suc, ◌^◌, ◌<◌, List, [], ◌∷◌, ◌++◌, length, Bool, true, false, Option, Some, None, refl, sym, ap, subst, append-nil, arith}
use Rattle.std.specs.Prelude.{map, codes, nat_lt, ◌==◌, if◌then◌else◌}
use Rattle.std.specs.Fmt.{decimal}
use Rattle.std.specs.List.{AllByRecursion}
use Rattle.std.specs.Str.{chars}
use Rattle.uuid.specs.Text.{hyphenated_text, lower}
use Rattle.types_base.specs.declared.device_def.DeviceDef.{DeviceDef}
use Rattle.types_base.specs.declared.device_def.DeviceDef.TheVariants as device
use Rattle.types_base.specs.declared.device_def.Disk.{Disk}
use Rattle.types_base.specs.declared.device_def.DiskDevice.{DiskDevice}
use Rattle.types_base.specs.declared.device_def.DiskDevice.TheVariants as disk_device
use Rattle.types_base.specs.declared.device_def.DiskDriver.{DiskDriver}
use Rattle.types_base.specs.declared.device_def.DiskSource.{DiskSource}
use Rattle.types_base.specs.declared.device_def.DiskTarget.{DiskTarget}
use Rattle.types_base.specs.declared.device_def.DiskType.{DiskType}
use Rattle.types_base.specs.declared.device_def.DiskType.TheVariants as disk_type
use Rattle.types_base.specs.declared.device_def.Interface.{Interface}
use Rattle.types_base.specs.declared.device_def.InterfaceModel.{InterfaceModel}
use Rattle.types_base.specs.declared.device_def.InterfaceSource.{InterfaceSource}
use Rattle.types_base.specs.declared.device_def.InterfaceType.{InterfaceType}
use Rattle.types_base.specs.declared.device_def.InterfaceType.TheVariants as interface_type
use Rattle.types_base.specs.declared.domain_def.BootDevice.{BootDevice}
use Rattle.types_base.specs.declared.domain_def.BootDevice.TheVariants as boot
use Rattle.types_base.specs.declared.domain_def.CharacterDevice.{CharacterDevice}
use Rattle.types_base.specs.declared.domain_def.CrashAction.{CrashAction}
use Rattle.types_base.specs.declared.domain_def.CrashAction.TheVariants as crash
use Rattle.types_base.specs.declared.domain_def.DomainDef.{DomainDef}
use Rattle.types_base.specs.declared.domain_def.DomainType.{DomainType}
use Rattle.types_base.specs.declared.domain_def.DomainType.TheVariants as domain_type
use Rattle.types_base.specs.declared.domain_def.Graphics.{Graphics}
use Rattle.types_base.specs.declared.domain_def.LifecycleAction.{LifecycleAction}
use Rattle.types_base.specs.declared.domain_def.LifecycleAction.TheVariants as action
use Rattle.types_base.specs.declared.domain_def.Memballoon.{Memballoon}
use Rattle.types_base.specs.declared.domain_def.Os.{Os}
use Rattle.types_base.specs.declared.mac.Mac.{Mac}
use Rattle.types_base.specs.declared.script.Script.{Script}
use Rattle.text_spec.specs.declared.vocabulary.AttributeName.TheVariants as attribute
use Rattle.text_spec.specs.declared.vocabulary.ElementName.{ElementName}
use Rattle.text_spec.specs.declared.vocabulary.ElementName.TheVariants as element
use Rattle.text_spec.specs.DevicePrinted.{driver_tree, disk_source_tree, target_tree, disk_attributes, disk_children, disk_tree, mac_tree, interface_source_tree, interface_model_tree, interface_children, interface_tree, device_tree}
use Rattle.text_spec.specs.DomainPrinted.{uuid_tree, script_tree, script_trees, memory_tree, current_attribute, vcpu_tree, boot_tree, os_type_tree, os_tree, character_tree, graphics_tree, memballoon_tree, device_trees, gathered, front_trees, middle_trees, domain_children, domain_tree}
use Rattle.text_spec.specs.Spelling.{pair, pairs, worded, present, flagged}
use Rattle.types_base.specs.Mac.{mac_text}
use Rattle.text_spec.specs.Tree.{Tree}
use Rattle.text_spec.specs.Words.{domain_type_word, boot_device_word, lifecycle_action_word, crash_action_word, disk_type_word, disk_device_word, interface_type_word}
use Rattle.text_spec.specs.Writable.{AreAttributes, IsText, IsTree}
use Rattle.text_laws.specs.Given.{IsValue, IsMac, IsMacOf, IsInterface, IsDomain, IsDevice}
use Rattle.text_laws.specs.Texts.{Of, IsDriverText, IsDiskSourceText, IsDiskText, IsInterfaceSourceText, IsModelText, IsInterfaceText, IsDeviceText, IsCharacterText, IsGraphicsText, IsMemballoonText, IsDomainText}
use Rattle.text_laws.proofs.Allowed.{both_all}
use Rattle.text_laws.proofs.Bare.{mac_plain, uuid_plain}
use Rattle.text_laws.proofs.Plain.{plain_text, plain_value, no_text, word_text, word_value, decimal_plain}
use Rattle.text_laws.proofs.Tagged.{attributes, formed, part_formed, all_formed}

-- ---- words
disk_type_value : (k : DiskType) → IsValue (disk_type_word k)
disk_type_value disk_type.File = word_value _ refl
disk_type_value disk_type.Block = word_value _ refl
disk_type_value disk_type.Volume = word_value _ refl

disk_device_value : (k : DiskDevice) → IsValue (disk_device_word k)
disk_device_value disk_device.Disk = word_value _ refl
disk_device_value disk_device.Cdrom = word_value _ refl
disk_device_value disk_device.Lun = word_value _ refl
disk_device_value disk_device.Floppy = word_value _ refl

interface_type_value : (k : InterfaceType) → IsValue (interface_type_word k)
interface_type_value interface_type.Network = word_value _ refl
interface_type_value interface_type.Bridge = word_value _ refl
interface_type_value interface_type.User = word_value _ refl

domain_type_value : (k : DomainType) → IsValue (domain_type_word k)
domain_type_value domain_type.Kvm = word_value _ refl
domain_type_value domain_type.Qemu = word_value _ refl

boot_value : (k : BootDevice) → IsValue (boot_device_word k)
boot_value boot.Hd = word_value _ refl
boot_value boot.Cdrom = word_value _ refl
boot_value boot.Network = word_value _ refl
boot_value boot.Fd = word_value _ refl

action_text : (k : LifecycleAction) → IsText (lifecycle_action_word k)
action_text action.Destroy = word_text _ refl
action_text action.Restart = word_text _ refl
action_text action.Preserve = word_text _ refl
action_text action.RenameRestart = word_text _ refl

crash_text : (k : CrashAction) → IsText (crash_action_word k)
crash_text crash.Destroy = word_text _ refl
crash_text crash.Restart = word_text _ refl
crash_text crash.Preserve = word_text _ refl
crash_text crash.RenameRestart = word_text _ refl
crash_text crash.CoredumpDestroy = word_text _ refl
crash_text crash.CoredumpRestart = word_text _ refl

-- ---- devices
module _ (depth : ℕ) where
  driver_formed : (d : DiskDriver) → IsDriverText d → IsTree (suc depth) (driver_tree d)
  unfolding chars
  driver_formed d is =
      formed depth element.Driver (pairs attribute.Name d.name ++ pairs attribute.Type d.kind) [] []
      (subst (λ ps. AreAttributes [] (pairs attribute.Name d.name ++ ps)) (append-nil (pairs attribute.Type d.kind))
      (attributes [] ((attribute.Name, d.name) ∷ (attribute.Type, d.kind) ∷ []) refl (is.0, (is.1, tt)))) no_text tt

  source_formed : (s : DiskSource) → IsDiskSourceText s → IsTree (suc depth) (disk_source_tree s)
  unfolding chars
  source_formed s is =
      formed depth element.Source (pairs attribute.File s.file ++ (pairs attribute.Dev s.dev ++ (pairs attribute.Pool s.pool ++ pairs attribute.Volume s.volume))) [] []
      (subst (λ ps. AreAttributes [] (pairs attribute.File s.file ++ (pairs attribute.Dev s.dev ++ (pairs attribute.Pool s.pool ++ ps)))) (append-nil (pairs attribute.Volume s.volume))
      (attributes [] ((attribute.File, s.file) ∷ (attribute.Dev, s.dev) ∷ (attribute.Pool, s.pool) ∷ (attribute.Volume, s.volume) ∷ []) refl
      (is.0, (is.1, (is.2, (is.3, tt)))))) no_text tt

  target_formed : (t : DiskTarget) → IsValue t.dev → Of IsValue t.bus → IsTree (suc depth) (target_tree t)
  unfolding chars
  target_formed t dev bus =
      formed depth element.Target (pair attribute.Dev t.dev ∷ pairs attribute.Bus t.bus) [] []
      (subst (λ ps. AreAttributes [] (pair attribute.Dev t.dev ∷ ps)) (append-nil (pairs attribute.Bus t.bus))
      (attributes [] ((attribute.Dev, Some t.dev) ∷ (attribute.Bus, t.bus) ∷ []) refl (dev, (bus, tt)))) no_text tt

  flag_formed : (n : ElementName) (b : Bool) → AllByRecursion (IsTree (suc depth)) (flagged n b)
  flag_formed n true = (formed depth n [] [] [] tt no_text tt, tt)
  flag_formed n false = tt

  pub disk_formed : (d : Disk) → IsDiskText d → IsTree (suc (suc depth)) (disk_tree d)
  unfolding disk_tree chars
  disk_formed d is =
      formed (suc depth) element.Disk (disk_attributes d) [] (disk_children d)
      (attributes [] ((attribute.Type, Some (disk_type_word d.kind)) ∷ (attribute.Device, Some (disk_device_word d.device)) ∷ []) refl
      (disk_type_value d.kind, (disk_device_value d.device, tt)))
      no_text
      (both_all _ (present driver_tree d.driver) _ (part_formed (suc depth) driver_tree IsDriverText driver_formed d.driver is.driver)
      (both_all _ (present disk_source_tree d.source) _ (part_formed (suc depth) disk_source_tree IsDiskSourceText source_formed d.source is.source)
      (target_formed d.target is.dev is.bus, flag_formed element.Readonly d.readonly)))

  mac_formed : (m : Mac) → IsMac m → IsTree (suc depth) (mac_tree m)
  mac_formed m is =
      formed depth element.Mac (pair attribute.Address (mac_text m) ∷ []) [] []
      (attributes [] ((attribute.Address, Some (mac_text m)) ∷ []) refl (plain_value (mac_text m) (mac_plain m is), tt)) no_text tt

  interface_source_formed : (s : InterfaceSource) → IsInterfaceSourceText s → IsTree (suc depth) (interface_source_tree s)
  unfolding chars
  interface_source_formed s is =
      formed depth element.Source (pairs attribute.Network s.network ++ pairs attribute.Bridge s.bridge) [] []
      (subst (λ ps. AreAttributes [] (pairs attribute.Network s.network ++ ps)) (append-nil (pairs attribute.Bridge s.bridge))
      (attributes [] ((attribute.Network, s.network) ∷ (attribute.Bridge, s.bridge) ∷ []) refl (is.0, (is.1, tt)))) no_text tt

  model_formed : (m : InterfaceModel) → IsModelText m → IsTree (suc depth) (interface_model_tree m)
  model_formed m is =
      formed depth element.Model (pairs attribute.Type m.kind) [] []
      (subst (AreAttributes []) (append-nil (pairs attribute.Type m.kind)) (attributes [] ((attribute.Type, m.kind) ∷ []) refl (is, tt))) no_text tt

  own_mac : (own : Option Mac) → IsMacOf own → Of IsMac own
  own_mac None is = tt
  own_mac (Some m) is = is

  pub interface_formed : (i : Interface) → IsInterface i → IsInterfaceText i → IsTree (suc (suc depth)) (interface_tree i)
  unfolding interface_tree
  interface_formed i own is =
      formed (suc depth) element.Interface (pair attribute.Type (interface_type_word i.kind) ∷ []) [] (interface_children i)
      (attributes [] ((attribute.Type, Some (interface_type_word i.kind)) ∷ []) refl (interface_type_value i.kind, tt))
      no_text
      (both_all _ (present mac_tree i.mac) _ (part_formed (suc depth) mac_tree IsMac mac_formed i.mac (own_mac i.mac own))
      (both_all _ (present interface_source_tree i.source) _ (part_formed (suc depth) interface_source_tree IsInterfaceSourceText interface_source_formed i.source is.0)
      (part_formed (suc depth) interface_model_tree IsModelText model_formed i.model is.1)))

  interfaces_formed : (is : List Interface) → AllByRecursion IsInterface is → AllByRecursion IsInterfaceText is
      → AllByRecursion (IsTree (suc (suc depth))) (map interface_tree is)
  interfaces_formed [] own all = tt
  interfaces_formed (i ∷ is) own all = (interface_formed i own.0 all.0, interfaces_formed is own.1 all.1)

  character_formed : (n : ElementName) (c : CharacterDevice) → IsCharacterText c → IsTree (suc (suc depth)) (character_tree n c)
  character_formed n c is =
      formed (suc depth) n (pairs attribute.Type c.kind) [] []
      (subst (AreAttributes []) (append-nil (pairs attribute.Type c.kind)) (attributes [] ((attribute.Type, c.kind) ∷ []) refl (is, tt))) no_text tt

  graphics_formed : (g : Graphics) → IsGraphicsText g → IsTree (suc (suc depth)) (graphics_tree g)
  unfolding chars
  graphics_formed g is =
      formed (suc depth) element.Graphics (pairs attribute.Type g.kind ++ pairs attribute.Port g.port) [] []
      (subst (λ ps. AreAttributes [] (pairs attribute.Type g.kind ++ ps)) (append-nil (pairs attribute.Port g.port))
      (attributes [] ((attribute.Type, g.kind) ∷ (attribute.Port, g.port) ∷ []) refl (is.0, (is.1, tt)))) no_text tt

  memballoon_formed : (m : Memballoon) → IsMemballoonText m → IsTree (suc (suc depth)) (memballoon_tree m)
  memballoon_formed m is =
      formed (suc depth) element.Memballoon (pairs attribute.Model m.model) [] []
      (subst (AreAttributes []) (append-nil (pairs attribute.Model m.model)) (attributes [] ((attribute.Model, m.model) ∷ []) refl (is, tt))) no_text tt

  worded_formed : (n : ElementName) (text : List ℕ) → IsText text → IsTree (suc (suc depth)) (worded n [] text)
  worded_formed n text is = formed (suc depth) n [] text [] tt is tt

  devices_formed : (d : DomainDef) → IsDomain d → IsDomainText d → AllByRecursion (IsTree (suc (suc depth))) (device_trees d)
  unfolding device_trees
  devices_formed d own is =
      both_all _ (present (worded element.Emulator []) d.emulator) _ (part_formed (suc (suc depth)) (worded element.Emulator []) IsText (worded_formed element.Emulator) d.emulator is.emulator)
      (both_all _ (map disk_tree d.disks) _ (all_formed (suc (suc depth)) disk_tree IsDiskText disk_formed d.disks is.disks)
      (both_all _ (map interface_tree d.interfaces) _ (interfaces_formed d.interfaces own.interfaces is.interfaces)
      (both_all _ (map (character_tree element.Serial) d.serials) _ (all_formed (suc (suc depth)) (character_tree element.Serial) IsCharacterText (character_formed element.Serial) d.serials is.serials)
      (both_all _ (map (character_tree element.Console) d.consoles) _ (all_formed (suc (suc depth)) (character_tree element.Console) IsCharacterText (character_formed element.Console) d.consoles is.consoles)
      (both_all _ (map graphics_tree d.graphics) _ (all_formed (suc (suc depth)) graphics_tree IsGraphicsText graphics_formed d.graphics is.graphics)
      (part_formed (suc (suc depth)) memballoon_tree IsMemballoonText memballoon_formed d.memballoon is.memballoon))))))

  gathered_formed : (n : ElementName) (ts : List Tree) → AllByRecursion (IsTree (suc (suc depth))) ts → AllByRecursion (IsTree (suc (suc (suc depth)))) (gathered n ts)
  gathered_formed n [] all = tt
  gathered_formed n (t ∷ ts) all = (formed (suc (suc depth)) n [] [] (t ∷ ts) tt no_text all, tt)

  -- ---- what is known of every domain
  child_formed : (n : ElementName) (text : List ℕ) → IsText text → IsTree (suc (suc (suc depth))) (worded n [] text)
  child_formed n text is = formed (suc (suc depth)) n [] text [] tt is tt

  uuid_formed : (u : List ℕ) → Unit {0} → IsTree (suc (suc (suc depth))) (uuid_tree u)
  uuid_formed u t = child_formed element.Uuid (hyphenated_text lower u) (plain_text (hyphenated_text lower u) (uuid_plain u))

  any_uuid : (u : Option (List ℕ)) → Of (λ x. Unit {0}) u
  any_uuid None = tt
  any_uuid (Some u) = tt

  script_by : (s : Script) (b : Bool) → (length s.text == 0) ≡ b → IsText s.text → AllByRecursion (IsTree (suc (suc (suc depth)))) (script_trees s)
  script_by s true e is = subst (AllByRecursion (IsTree (suc (suc (suc depth))))) (sym (ap (λ b. if b then [] else script_tree s.text ∷ []) e)) tt
  script_by s false e is =
      subst (AllByRecursion (IsTree (suc (suc (suc depth))))) (sym (ap (λ b. if b then [] else script_tree s.text ∷ []) e))
      (formed (suc (suc depth)) element.Metadata [] [] (worded element.Guest [] s.text ∷ []) tt no_text (worded_formed element.Guest s.text is, tt), tt)

  front_formed : (d : DomainDef) → IsDomainText d → AllByRecursion (IsTree (suc (suc (suc depth)))) (front_trees d)
  unfolding front_trees
  front_formed d is =
      both_all _ (worded element.Name [] d.name ∷ present uuid_tree d.uuid) _
      (child_formed element.Name d.name is.name, part_formed (suc (suc (suc depth))) uuid_tree (λ x. Unit {0}) uuid_formed d.uuid (any_uuid d.uuid))
      (both_all _ (present (worded element.Title []) d.title) _ (part_formed (suc (suc (suc depth))) (worded element.Title []) IsText (child_formed element.Title) d.title is.title)
      (both_all _ (present (worded element.Description []) d.description) _ (part_formed (suc (suc (suc depth))) (worded element.Description []) IsText (child_formed element.Description) d.description is.description)
      (script_by d.guest (length d.guest.text == 0) refl is.guest)))

  number_formed : (n : ElementName) (k : ℕ) → k < 2 ^ 64 → IsTree (suc (suc (suc depth))) (memory_tree n k)
  number_formed n k fits =
      formed (suc (suc depth)) n (pair attribute.Unit (codes "KiB") ∷ []) (decimal k) []
      (attributes [] ((attribute.Unit, Some (codes "KiB")) ∷ []) refl (word_value _ refl, tt)) (plain_text (decimal k) (decimal_plain k fits)) tt

  current_are : (most current : ℕ) (b : Bool) → nat_lt current most ≡ b → current < 2 ^ 64 → AreAttributes [] (current_attribute most current)
  current_are most current true e fits =
      subst (AreAttributes []) (sym (ap (λ b. if b then pair attribute.Current (decimal current) ∷ [] else []) e))
      (attributes [] ((attribute.Current, Some (decimal current)) ∷ []) refl (plain_value (decimal current) (decimal_plain current fits), tt))
  current_are most current false e fits =
      subst (AreAttributes []) (sym (ap (λ b. if b then pair attribute.Current (decimal current) ∷ [] else []) e)) tt

  vcpu_formed : (most current : ℕ) → most < 2 ^ 64 → current < 2 ^ 64 → IsTree (suc (suc (suc depth))) (vcpu_tree most current)
  vcpu_formed most current p q =
      formed (suc (suc depth)) element.Vcpu (current_attribute most current) (decimal most) [] (current_are most current (nat_lt current most) refl q)
      (plain_text (decimal most) (decimal_plain most p)) tt

  boots_formed : (bs : List BootDevice) → AllByRecursion (IsTree (suc (suc depth))) (map boot_tree bs)
  boots_formed [] = tt
  boots_formed (b ∷ bs) = (
    formed (suc depth) element.Boot (pair attribute.Dev (boot_device_word b) ∷ []) [] []
        (attributes [] ((attribute.Dev, Some (boot_device_word b)) ∷ []) refl (boot_value b, tt)) no_text tt,
    boots_formed bs,
  )

  os_type_formed : (os : Os) → IsText os.kind → Of IsValue os.arch → Of IsValue os.machine → IsTree (suc (suc depth)) (os_type_tree os)
  unfolding chars
  os_type_formed os kind arch machine =
      formed (suc depth) element.Type (pairs attribute.Arch os.arch ++ pairs attribute.Machine os.machine) os.kind []
      (subst (λ ps. AreAttributes [] (pairs attribute.Arch os.arch ++ ps)) (append-nil (pairs attribute.Machine os.machine))
      (attributes [] ((attribute.Arch, os.arch) ∷ (attribute.Machine, os.machine) ∷ []) refl (arch, (machine, tt)))) kind tt

  os_formed : (os : Os) → IsText os.kind → Of IsValue os.arch → Of IsValue os.machine → IsTree (suc (suc (suc depth))) (os_tree os)
  unfolding os_tree
  os_formed os kind arch machine =
      formed (suc (suc depth)) element.Os [] [] (os_type_tree os ∷ map boot_tree os.boot) tt no_text (os_type_formed os kind arch machine, boots_formed os.boot)

  middle_formed : (d : DomainDef) → IsDomain d → IsDomainText d → AllByRecursion (IsTree (suc (suc (suc depth)))) (middle_trees d)
  unfolding middle_trees
  middle_formed d own is =
      let memory : d.memory < 2 ^ 64 = omega (arith, own.memory.1) in
      let current : d.current_memory < 2 ^ 64 = omega (arith, own.current_memory.1, own.memory.1) in
      let most : d.vcpus < 2 ^ 64 = omega (arith, own.vcpus.1) in
      let now : d.current_vcpus < 2 ^ 64 = omega (arith, own.current_vcpus.1, own.vcpus.1) in (
        number_formed element.Memory d.memory memory,
        (
          number_formed element.CurrentMemory d.current_memory current,
          (
            vcpu_formed d.vcpus d.current_vcpus most now,
            (
              os_formed d.os is.os is.arch is.machine,
              (
                child_formed element.OnPoweroff (lifecycle_action_word d.on_poweroff) (action_text d.on_poweroff),
                (
                  child_formed element.OnReboot (lifecycle_action_word d.on_reboot) (action_text d.on_reboot),
                  (child_formed element.OnCrash (crash_action_word d.on_crash) (crash_text d.on_crash), tt),
                ),
              ),
            ),
          ),
        ),
      )

  pub domain_formed : (d : DomainDef) → IsDomain d → IsDomainText d → IsTree (suc (suc (suc (suc depth)))) (domain_tree d)
  unfolding domain_tree
  domain_formed d own is =
      formed (suc (suc (suc depth))) element.Domain (pair attribute.Type (domain_type_word d.kind) ∷ []) [] (domain_children d)
      (attributes [] ((attribute.Type, Some (domain_type_word d.kind)) ∷ []) refl (domain_type_value d.kind, tt))
      no_text
      (both_all _ (front_trees d) _ (front_formed d is)
      (both_all _ (middle_trees d) _ (middle_formed d own is)
      (gathered_formed element.Devices (device_trees d) (devices_formed d own is))))

  pub device_formed : (d : DeviceDef) → IsDevice d → IsDeviceText d → IsTree (suc (suc depth)) (device_tree d)
  unfolding device_tree
  device_formed (device.Disk d) own is = disk_formed d is
  device_formed (device.Interface i) own is = interface_formed i own is
