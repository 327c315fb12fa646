-- A tree without addresses has the values of the whole one.
use Rattle.std.proofs.Common.{◌≡◌, refl, ap, ◌∙◌}
use Rattle.std.specs.Prelude.{map, option_map, option_and_then}
use Rattle.text_spec.specs.declared.row.Place.TheVariants as place
use Rattle.text_spec.specs.declared.row.Source.TheVariants as source
use Rattle.text_spec.specs.declared.vocabulary.AttributeName.TheVariants as attribute
use Rattle.text_spec.specs.declared.vocabulary.ElementName.{ElementName}
use Rattle.text_spec.specs.declared.vocabulary.ElementName.TheVariants as element
use Rattle.text_spec.specs.DeviceText.{driver_of, disk_source_of, disk_of, interface_source_of, interface_model_of, interface_of}
use Rattle.text_spec.specs.DomainValue.{own_text, in_devices, os_type, memory_in, memory_at, memory_of, current_memory_of, vcpus_of, current_vcpus_of, script_of, boot_in, os_of, domain_type_in, lifecycle_in, crash_in, character_device_of, graphics_of, memballoon_of, domain_of}
use Rattle.text_spec.specs.Look.{element_at, elements_at, first_of}
use Rattle.text_spec.specs.Tree.{Tree}
use Rattle.virt_types.specs.Below.types_base.declared.domain_def.LifecycleAction.{LifecycleAction}
use Rattle.virt_types.specs.Below.types_base.declared.domain_def.LifecycleAction.TheVariants as action
use Rattle.xml_print.proofs.Bare.{bare, same_text, same_attribute, bare_first, through, all_through, asked, picked, still_there, bare_at, bare_elements, same_value_at}

-- ---- devices
same_driver : (t : Tree) → driver_of (bare t) ≡ driver_of t
same_driver t = rw (same_attribute attribute.Name t, same_attribute attribute.Type t) refl

same_disk_source : (t : Tree) → disk_source_of (bare t) ≡ disk_source_of t
same_disk_source t =
    rw (same_attribute attribute.File t, same_attribute attribute.Dev t, same_attribute attribute.Pool t, same_attribute attribute.Volume t) refl

same_disk : (t : Tree) → disk_of (bare t) ≡ disk_of t
unfolding disk_of
same_disk t =
    rw (
      same_attribute attribute.Type t,
      same_attribute attribute.Device t,
      same_value_at (place.Child element.Target) (source.Attribute attribute.Dev) t,
      same_value_at (place.Child element.Target) (source.Attribute attribute.Bus) t,
      bare_first element.Driver t,
      bare_first element.Source t,
      bare_first element.Readonly t,
      through driver_of same_driver (first_of element.Driver t),
      through disk_source_of same_disk_source (first_of element.Source t),
      still_there (first_of element.Readonly t),
    ) refl

same_interface_source : (t : Tree) → interface_source_of (bare t) ≡ interface_source_of t
same_interface_source t = rw (same_attribute attribute.Network t, same_attribute attribute.Bridge t) refl

same_model : (t : Tree) → interface_model_of (bare t) ≡ interface_model_of t
same_model t = rw (same_attribute attribute.Type t) refl

same_interface : (t : Tree) → interface_of (bare t) ≡ interface_of t
unfolding interface_of
same_interface t =
    rw (
      same_attribute attribute.Type t,
      same_value_at (place.Child element.Mac) (source.Attribute attribute.Address) t,
      bare_first element.Source t,
      bare_first element.Model t,
      through interface_source_of same_interface_source (first_of element.Source t),
      through interface_model_of same_model (first_of element.Model t),
    ) refl

-- ---- domains
same_own : (n : ElementName) (t : Tree) → own_text n (bare t) ≡ own_text n t
same_own n t = same_value_at (place.Child n) source.Text t

same_memory_in : (t : Tree) → memory_in (bare t) ≡ memory_in t
same_memory_in t = rw (same_text t, same_attribute attribute.Unit t) refl

same_memory_at : (n : ElementName) (t : Tree) → memory_at n (bare t) ≡ memory_at n t
same_memory_at n t = ap (option_and_then memory_in) (bare_at (place.Child n) t) ∙ asked memory_in same_memory_in (element_at (place.Child n) t)

same_memory : (t : Tree) → memory_of (bare t) ≡ memory_of t
unfolding memory_of
same_memory t = rw (same_memory_at element.Memory t) refl

same_current_memory : (t : Tree) → current_memory_of (bare t) ≡ current_memory_of t
unfolding current_memory_of
same_current_memory t = rw (same_memory t, same_memory_at element.CurrentMemory t) refl

same_vcpus : (t : Tree) → vcpus_of (bare t) ≡ vcpus_of t
unfolding vcpus_of
same_vcpus t = rw (same_value_at (place.Child element.Vcpu) source.Text t) refl

same_current_vcpus : (t : Tree) → current_vcpus_of (bare t) ≡ current_vcpus_of t
unfolding current_vcpus_of
same_current_vcpus t = rw (same_vcpus t, same_value_at (place.Child element.Vcpu) (source.Attribute attribute.Current) t) refl

same_script : (t : Tree) → script_of (bare t) ≡ script_of t
unfolding script_of
same_script t = rw (same_value_at (place.Inside element.Metadata element.Guest) source.Text t) refl

same_boot : (t : Tree) → boot_in (bare t) ≡ boot_in t
same_boot t = rw (same_attribute attribute.Dev t) refl

same_os : (t : Tree) → os_of (bare t) ≡ os_of t
unfolding os_of
same_os t =
    rw (
      same_value_at os_type source.Text t,
      same_value_at os_type (source.Attribute attribute.Arch) t,
      same_value_at os_type (source.Attribute attribute.Machine) t,
      bare_elements (place.Inside element.Os element.Boot) t,
      picked boot_in same_boot (elements_at (place.Inside element.Os element.Boot) t),
    ) refl

same_type : (t : Tree) → domain_type_in (bare t) ≡ domain_type_in t
unfolding domain_type_in
same_type t = rw (same_attribute attribute.Type t) refl

same_lifecycle : (n : ElementName) (a : LifecycleAction) (t : Tree) → lifecycle_in n a (bare t) ≡ lifecycle_in n a t
unfolding lifecycle_in
same_lifecycle n a t = rw (same_own n t) refl

same_crash : (t : Tree) → crash_in (bare t) ≡ crash_in t
unfolding crash_in
same_crash t = rw (same_own element.OnCrash t) refl

same_character : (t : Tree) → character_device_of (bare t) ≡ character_device_of t
same_character t = rw (same_attribute attribute.Type t) refl

same_graphics : (t : Tree) → graphics_of (bare t) ≡ graphics_of t
same_graphics t = rw (same_attribute attribute.Type t, same_attribute attribute.Port t) refl

same_memballoon : (t : Tree) → memballoon_of (bare t) ≡ memballoon_of t
same_memballoon t = rw (same_attribute attribute.Model t) refl

-- devices of one kind
module _ {A : Type 0} (f : Tree → A) (same : (t : Tree) → f (bare t) ≡ f t) (n : ElementName) (t : Tree) where
  same_all : map f (elements_at (in_devices n) (bare t)) ≡ map f (elements_at (in_devices n) t)
  same_all = ap (map f) (bare_elements (in_devices n) t) ∙ all_through f same (elements_at (in_devices n) t)

  same_one : option_map f (element_at (in_devices n) (bare t)) ≡ option_map f (element_at (in_devices n) t)
  same_one = ap (option_map f) (bare_at (in_devices n) t) ∙ through f same (element_at (in_devices n) t)

pub same_domain : (t : Tree) → domain_of (bare t) ≡ domain_of t
unfolding domain_of
same_domain t =
    rw (
      same_type t,
      same_own element.Name t,
      same_own element.Uuid t,
      same_own element.Title t,
      same_own element.Description t,
      same_script t,
      same_memory t,
      same_current_memory t,
      same_vcpus t,
      same_current_vcpus t,
      same_os t,
      same_lifecycle element.OnPoweroff action.Destroy t,
      same_lifecycle element.OnReboot action.Restart t,
      same_crash t,
      same_value_at (in_devices element.Emulator) source.Text t,
      same_all disk_of same_disk element.Disk t,
      same_all interface_of same_interface element.Interface t,
      same_all character_device_of same_character element.Serial t,
      same_all character_device_of same_character element.Console t,
      same_all graphics_of same_graphics element.Graphics t,
      same_one memballoon_of same_memballoon element.Memballoon t,
    ) refl
