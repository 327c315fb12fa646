-- A tree without addresses has the faults of the whole one.
use Rattle.std.proofs.Common.{◌≡◌, ℕ, List, [], ◌∷◌, Option, Some, None, refl, ap, ap₂, ◌∙◌}
use Rattle.std.specs.Prelude.{map, option_map}
use Rattle.std.specs.Char.{to_ascii_lowercase}
use Rattle.std.specs.Option.{option_or}
use Rattle.std.proofs.lemmas.List.{length-map}
use Rattle.text_spec.specs.declared.device_kind.DeviceKind.{DeviceKind}
use Rattle.text_spec.specs.declared.device_kind.DeviceKind.TheVariants as of
use Rattle.text_spec.specs.declared.row.Content.{Content}
use Rattle.text_spec.specs.declared.row.Content.TheVariants as content
use Rattle.text_spec.specs.declared.row.Need.{Need}
use Rattle.text_spec.specs.declared.row.Need.TheVariants as need
use Rattle.text_spec.specs.declared.row.Place.TheVariants as place
use Rattle.text_spec.specs.declared.row.Row.{Row}
use Rattle.text_spec.specs.declared.row.Source.TheVariants as source
use Rattle.text_spec.specs.declared.vocabulary.AttributeName.TheVariants as attribute
use Rattle.text_spec.specs.declared.vocabulary.ElementName.{ElementName}
use Rattle.text_spec.specs.declared.vocabulary.ElementName.TheVariants as element
use Rattle.text_spec.specs.Content.{content_fault}
use Rattle.text_spec.specs.DeviceList.{element_for, rows_for, key_in, with_key, device_fault, devices_fault}
use Rattle.text_spec.specs.DomainText.{domain_rows, devices_at, domain_fault}
use Rattle.text_spec.specs.Look.{element_at, elements_at, value_in}
use Rattle.text_spec.specs.Table.{value_fault, wrong_in, wrong_in_first, wrong_in_each, wrong_by, wrong_at, rows_fault}
use Rattle.text_spec.specs.Tree.{Tree}
use Rattle.xml_print.proofs.Bare.{bare, same_text, same_attribute, same_value_in, bare_at, bare_elements, same_value_at}

same_content : (c : Content) (t : Tree) (v : List ℕ) → content_fault c (bare t) v ≡ content_fault c t v
unfolding content_fault
same_content content.Text t v = refl
same_content content.Filled t v = refl
same_content content.Name t v = refl
same_content content.Uuid t v = refl
same_content content.Mac t v = refl
same_content content.Script t v = refl
same_content content.Memory t v = rw (same_attribute attribute.Unit t) refl
same_content content.Vcpus t v = refl
same_content content.CurrentVcpus t v = rw (same_text t) refl
same_content content.DomainType t v = refl
same_content content.BootDevice t v = refl
same_content content.LifecycleAction t v = refl
same_content content.CrashAction t v = refl
same_content content.DiskType t v = refl
same_content content.DiskDevice t v = refl
same_content content.InterfaceType t v = refl

same_fault : (r : Row) (t : Tree) (v : Option (List ℕ)) → value_fault r (bare t) v ≡ value_fault r t v
same_fault r t None = refl
same_fault r t (Some v) = same_content r.content t v

same_wrong : (r : Row) (t : Tree) → wrong_in r (bare t) ≡ wrong_in r t
same_wrong r t = ap (value_fault r (bare t)) (same_value_in r.source t) ∙ same_fault r t (value_in r.source t)

same_first : (r : Row) (o : Option Tree) → wrong_in_first r (option_map bare o) ≡ wrong_in_first r o
same_first r None = refl
same_first r (Some t) = same_wrong r t

same_each : (r : Row) (ts : List Tree) → wrong_in_each r (map bare ts) ≡ wrong_in_each r ts
same_each r [] = refl
same_each r (t ∷ ts) = ap₂ option_or (same_wrong r t) (same_each r ts)

same_by : (n : Need) (r : Row) (t : Tree) → wrong_by n r (bare t) ≡ wrong_by n r t
same_by need.Needed r t = ap (wrong_in_first r) (bare_at r.place t) ∙ same_first r (element_at r.place t)
same_by need.Optional r t = ap (wrong_in_first r) (bare_at r.place t) ∙ same_first r (element_at r.place t)
same_by need.Each r t = ap (wrong_in_each r) (bare_elements r.place t) ∙ same_each r (elements_at r.place t)

same_at : (r : Row) (t : Tree) → wrong_at r (bare t) ≡ wrong_at r t
unfolding wrong_at
same_at r t = same_by r.need r t

pub same_rows : (names : List ElementName) (rs : List Row) (t : Tree) → rows_fault names rs (bare t) ≡ rows_fault names rs t
unfolding rows_fault
same_rows names [] t = refl
same_rows names (r ∷ rs) t = rw (same_at r t, same_rows names rs t) refl

same_key : (d : DeviceKind) (t : Tree) → key_in d (bare t) ≡ key_in d t
unfolding key_in
same_key of.Disk t = same_value_at (place.Child element.Target) (source.Attribute attribute.Dev) t
same_key of.Interface t =
    ap (option_map (λ text. map to_ascii_lowercase text)) (same_value_at (place.Child element.Mac) (source.Attribute attribute.Address) t)

same_device : (d : DeviceKind) (names : List ElementName) (keys : List (List ℕ)) (t : Tree) → device_fault d names keys (bare t) ≡ device_fault d names keys t
unfolding device_fault
same_device d names keys t = rw (same_rows names (rows_for d) t, same_key d t) refl

same_devices : (d : DeviceKind) (names : List ElementName) (keys : List (List ℕ)) (ts : List Tree)
    → devices_fault d names keys (map bare ts) ≡ devices_fault d names keys ts
unfolding devices_fault
same_devices d names keys [] = refl
same_devices d names keys (t ∷ ts) =
    rw (same_device d names keys t, same_key d t, same_devices d names (with_key (key_in d t) keys) ts) refl

bare_devices : (d : DeviceKind) (t : Tree) → devices_at d (bare t) ≡ map bare (devices_at d t)
bare_devices d t = bare_elements (place.Inside element.Devices (element_for d)) t

pub same_domain_fault : (t : Tree) → domain_fault (bare t) ≡ domain_fault t
unfolding domain_fault
same_domain_fault t =
    rw (
      same_rows (element.Domain ∷ []) domain_rows t,
      bare_devices of.Disk t,
      bare_devices of.Interface t,
      same_devices of.Disk (element.Domain ∷ element.Devices ∷ element.Disk ∷ []) [] (devices_at of.Disk t),
      same_devices of.Interface (element.Domain ∷ element.Devices ∷ element.Interface ∷ []) [] (devices_at of.Interface t),
      length-map (devices_at of.Disk t) bare,
      length-map (devices_at of.Interface t) bare,
    ) refl
