-- The tree that a definition of a domain stands for: the elements and attributes of its table in
-- that order, what has a default with it, and nothing for what is absent.
use Rattle.std.specs.Prelude.{ℕ, List, [], ◌∷◌, ◌++◌, length, map, Bool, Option, Some, unwrap_or, ◌==◌, nat_lt, if◌then◌else◌, codes}
use Rattle.std.specs.Fmt.{decimal}
use Rattle.uuid.specs.Text.{hyphenated_text, lower}
use Rattle.types_base.specs.declared.domain_def.BootDevice.{BootDevice}
use Rattle.types_base.specs.declared.domain_def.CharacterDevice.{CharacterDevice}
use Rattle.types_base.specs.declared.domain_def.DomainDef.{DomainDef}
use Rattle.types_base.specs.declared.domain_def.Graphics.{Graphics}
use Rattle.types_base.specs.declared.domain_def.Memballoon.{Memballoon}
use Rattle.types_base.specs.declared.domain_def.Os.{Os}
use Rattle.types_base.specs.declared.script.Script.{Script}
use Rattle.text_spec.specs.declared.pair.Pair.{Pair}
use Rattle.text_spec.specs.declared.vocabulary.AttributeName.TheVariants as attribute
use Rattle.text_spec.specs.declared.vocabulary.ElementName.{ElementName}
use Rattle.text_spec.specs.declared.vocabulary.ElementName.TheVariants as element
use Rattle.text_spec.specs.DevicePrinted.{disk_tree, interface_tree, with_mac}
use Rattle.text_spec.specs.Spelling.{pair, pairs, tagged, worded, holding, present, fits}
use Rattle.text_spec.specs.Tree.{Tree}
use Rattle.text_spec.specs.Words.{domain_type_word, boot_device_word, lifecycle_action_word, crash_action_word}
use Rattle.text_spec.specs.Written.{written}

-- an identifier in its hyphenated form, in small letters (RFC 9562)
abbrev pub uuid_tree : List ℕ → Tree
uuid_tree uuid = worded element.Uuid [] (hyphenated_text lower uuid)

-- a script that says something has an element
abbrev pub script_tree : List ℕ → Tree
script_tree text = holding element.Metadata [] (worded element.Guest [] text ∷ [])

abbrev pub script_trees : Script → List Tree
script_trees s = if length s.text == 0 then [] else script_tree s.text ∷ []

abbrev pub memory_tree : ElementName → ℕ → Tree
memory_tree n kibibytes = worded n (pair attribute.Unit (codes "KiB") ∷ []) (decimal kibibytes)

-- the processors that the guest has, where they are fewer than it may get
abbrev pub current_attribute : ℕ → ℕ → List Pair
current_attribute most current = if nat_lt current most then pair attribute.Current (decimal current) ∷ [] else []

abbrev pub vcpu_tree : ℕ → ℕ → Tree
vcpu_tree most current = worded element.Vcpu (current_attribute most current) (decimal most)

abbrev pub boot_tree : BootDevice → Tree
boot_tree b = tagged element.Boot (pair attribute.Dev (boot_device_word b) ∷ [])

abbrev pub os_type_tree : Os → Tree
os_type_tree os = worded element.Type (pairs attribute.Arch os.arch ++ pairs attribute.Machine os.machine) os.kind

unfoldable pub os_tree : Os → Tree
os_tree os = holding element.Os [] (os_type_tree os ∷ map boot_tree os.boot)

-- ---- devices
abbrev pub character_tree : ElementName → CharacterDevice → Tree
character_tree n c = tagged n (pairs attribute.Type c.kind)

abbrev pub graphics_tree : Graphics → Tree
graphics_tree g = tagged element.Graphics (pairs attribute.Type g.kind ++ pairs attribute.Port g.port)

abbrev pub memballoon_tree : Memballoon → Tree
memballoon_tree m = tagged element.Memballoon (pairs attribute.Model m.model)

-- the devices after disks and interfaces
abbrev pub other_device_trees : DomainDef → List Tree
other_device_trees d =
    map (character_tree element.Serial) d.serials
    ++ (map (character_tree element.Console) d.consoles
    ++ (map graphics_tree d.graphics ++ present memballoon_tree d.memballoon))

unfoldable pub device_trees : DomainDef → List Tree
device_trees d =
    present (worded element.Emulator []) d.emulator
    ++ (map disk_tree d.disks ++ (map interface_tree d.interfaces ++ other_device_trees d))

-- elements gathered in one of their own, if there are any
abbrev pub gathered : ElementName → List Tree → List Tree
gathered n [] = []
gathered n (t ∷ ts) = holding n [] (t ∷ ts) ∷ []

-- ---- a definition
-- what is known of every domain, before its memory
unfoldable pub front_trees : DomainDef → List Tree
front_trees d =
    worded element.Name [] d.name
    ∷ present uuid_tree d.uuid
    ++ (present (worded element.Title []) d.title
    ++ (present (worded element.Description []) d.description ++ script_trees d.guest))

-- memory and processors
abbrev pub size_trees : DomainDef → List Tree
size_trees d =
    memory_tree element.Memory d.memory
    ∷ memory_tree element.CurrentMemory d.current_memory
    ∷ vcpu_tree d.vcpus d.current_vcpus
    ∷ []

-- what follows when the guest goes down
abbrev pub action_trees : DomainDef → List Tree
action_trees d =
    worded element.OnPoweroff [] (lifecycle_action_word d.on_poweroff)
    ∷ worded element.OnReboot [] (lifecycle_action_word d.on_reboot)
    ∷ worded element.OnCrash [] (crash_action_word d.on_crash)
    ∷ []

unfoldable pub middle_trees : DomainDef → List Tree
middle_trees d = size_trees d ++ (os_tree d.os ∷ action_trees d)

abbrev pub domain_children : DomainDef → List Tree
domain_children d = front_trees d ++ (middle_trees d ++ gathered element.Devices (device_trees d))

unfoldable pub domain_tree : DomainDef → Tree
domain_tree d = holding element.Domain (pair attribute.Type (domain_type_word d.kind) ∷ []) (domain_children d)

-- ---- as if filled in
-- an identifier that stands in for an absent one: all take the same room
abbrev pub any_uuid : List ℕ
any_uuid = 0 ∷ 0 ∷ 0 ∷ 0 ∷ 0 ∷ 0 ∷ 0 ∷ 0 ∷ 0 ∷ 0 ∷ 0 ∷ 0 ∷ 0 ∷ 0 ∷ 0 ∷ 0 ∷ []

unfoldable pub stood_in : DomainDef → DomainDef
stood_in d = record d { uuid = Some (unwrap_or d.uuid any_uuid); interfaces = map with_mac d.interfaces }

-- the bytes of a definition's text once it is filled in
unfoldable pub filled_length : DomainDef → ℕ
filled_length d = length (written (domain_tree (stood_in d)))

-- a definition whose text is within the limits of a text, once it is filled in
unfoldable pub domain_fits : DomainDef → Bool
domain_fits d = fits (domain_tree (stood_in d))
