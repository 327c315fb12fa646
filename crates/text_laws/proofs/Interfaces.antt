-- Interfaces that were printed are read.
use Rattle.std.proofs.Common.{◌≡◌, [], ◌∷◌, ◌++◌, Option, Some, None, refl, ◌∙◌, ap}
use Rattle.std.specs.Prelude.{option_map, option_and_then}
use Rattle.types_base.specs.declared.device_def.Interface.{Interface}
use Rattle.types_base.specs.declared.device_def.InterfaceModel.{InterfaceModel}
use Rattle.types_base.specs.declared.device_def.InterfaceSource.{InterfaceSource}
use Rattle.types_base.specs.declared.device_def.InterfaceType.{InterfaceType}
use Rattle.types_base.specs.declared.device_def.InterfaceType.TheVariants as type
use Rattle.types_base.specs.declared.mac.Mac.{Mac}
use Rattle.text_spec.specs.declared.vocabulary.AttributeName.TheVariants as attribute
use Rattle.text_spec.specs.declared.vocabulary.ElementName.TheVariants as element
use Rattle.text_spec.specs.DevicePrinted.{mac_tree, interface_source_tree, interface_model_tree, interface_children, interface_tree}
use Rattle.text_spec.specs.DeviceText.{interface_source_of, interface_model_of, mac_in, interface_of}
use Rattle.text_spec.specs.Look.{is_element, is_attribute, attribute_of, first_of}
use Rattle.text_spec.specs.MacText.{mac_of}
use Rattle.text_spec.specs.Spelling.{pair, pairs, present}
use Rattle.types_base.specs.Mac.{mac_text}
use Rattle.text_spec.specs.Tree.{Tree}
use Rattle.text_spec.specs.Words.{interface_type_word, interface_type_of}
use Rattle.text_laws.proofs.Lookups.{here, past, alone, other, first_in, found, passed, found_last, passed_last}
use Rattle.text_laws.specs.Given.{IsMacOf, IsInterface}
use Rattle.text_laws.proofs.Macs.{mac_back}
use Rattle.text_laws.proofs.Disks.{option_back}

source_back : (s : InterfaceSource) → interface_source_of (interface_source_tree s) ≡ s
unfolding attribute_of is_attribute
source_back s =
    let network = here attribute.Network s.network (pairs attribute.Bridge s.bridge) (λ x. refl) (other attribute.Network attribute.Bridge s.bridge (λ x. refl)) in
    let bridge = past attribute.Bridge attribute.Network s.network (pairs attribute.Bridge s.bridge) (λ x. refl) ∙ alone attribute.Bridge s.bridge (λ x. refl) in
    rw (network, bridge)

model_back : (m : InterfaceModel) → interface_model_of (interface_model_tree m) ≡ m
unfolding attribute_of is_attribute
model_back m = rw (alone attribute.Type m.kind (λ x. refl))

pub type_back : (k : InterfaceType) → interface_type_of (interface_type_word k) ≡ Some k
unfolding interface_type_of
type_back type.Network = refl
type_back type.Bridge = refl
type_back type.User = refl

pub address_found : (m : Mac) → attribute_of attribute.Address (mac_tree m) ≡ Some (mac_text m)
unfolding attribute_of is_attribute
address_found m = refl

module _ (i : Interface) where
  pub mac_found : first_of element.Mac (interface_tree i) ≡ option_map mac_tree i.mac
  unfolding interface_tree is_element
  mac_found =
      let rest = present interface_source_tree i.source ++ present interface_model_tree i.model in
      first_in element.Mac element.Interface (pair attribute.Type (interface_type_word i.kind) ∷ []) [] (interface_children i)
      ∙ found element.Mac mac_tree i.mac rest (λ x. refl)
      (passed element.Mac interface_source_tree i.source (present interface_model_tree i.model) (λ x. refl)
      ∙ passed_last element.Mac interface_model_tree i.model (λ x. refl))

  source_found : first_of element.Source (interface_tree i) ≡ option_map interface_source_tree i.source
  unfolding interface_tree is_element
  source_found =
      let rest = present interface_source_tree i.source ++ present interface_model_tree i.model in
      first_in element.Source element.Interface (pair attribute.Type (interface_type_word i.kind) ∷ []) [] (interface_children i)
      ∙ passed element.Source mac_tree i.mac rest (λ x. refl)
      ∙ found element.Source interface_source_tree i.source (present interface_model_tree i.model) (λ x. refl)
      (passed_last element.Source interface_model_tree i.model (λ x. refl))

  model_found : first_of element.Model (interface_tree i) ≡ option_map interface_model_tree i.model
  unfolding interface_tree is_element
  model_found =
      let rest = present interface_source_tree i.source ++ present interface_model_tree i.model in
      first_in element.Model element.Interface (pair attribute.Type (interface_type_word i.kind) ∷ []) [] (interface_children i)
      ∙ passed element.Model mac_tree i.mac rest (λ x. refl)
      ∙ passed element.Model interface_source_tree i.source (present interface_model_tree i.model) (λ x. refl)
      ∙ found_last element.Model interface_model_tree i.model (λ x. refl)

  pub type_found : attribute_of attribute.Type (interface_tree i) ≡ Some (interface_type_word i.kind)
  unfolding interface_tree attribute_of is_attribute
  type_found = refl

mac_by : (first : Option Tree) (own : Option Mac) → first ≡ option_map mac_tree own → IsMacOf own
    → option_and_then mac_of (option_and_then (attribute_of attribute.Address) first) ≡ own
mac_by first None e is = rw e
mac_by first (Some m) e is = rw (e, address_found m) (mac_back m is)

pub mac_in_back : (i : Interface) → IsMacOf i.mac → mac_in (interface_tree i) ≡ i.mac
mac_in_back i is = mac_by (first_of element.Mac (interface_tree i)) i.mac (mac_found i) is

pub interface_back : (i : Interface) → IsInterface i → interface_of (interface_tree i) ≡ i
unfolding interface_of
interface_back i is =
    let source = ap (option_map interface_source_of) (source_found i) ∙ option_back interface_source_of interface_source_tree i.source source_back in
    let model = ap (option_map interface_model_of) (model_found i) ∙ option_back interface_model_of interface_model_tree i.model model_back in
    rw (type_found i, type_back i.kind, mac_in_back i is, source, model)
