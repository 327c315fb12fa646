-- Devices that are read have keys, and none the key of another.
use Rattle.std.proofs.Common.{◌≡◌, ℕ, List, [], ◌∷◌, length, Bool, true, false, Option, Some, None, refl, sym, ◌∙◌, ap, subst}
use Rattle.std.specs.Prelude.{◌==◌, not, map, option_map, option_and_then, unwrap_or, if◌then◌else◌}
use Rattle.std.specs.Char.{to_ascii_lowercase}
use Rattle.std.specs.List.{AllByRecursion}
use Rattle.types_base.specs.declared.mac.Mac.{Mac}
use Rattle.text_spec.specs.declared.definition.DefFault.{DefFault}
use Rattle.text_spec.specs.declared.device_kind.DeviceKind.TheVariants as of
use Rattle.text_spec.specs.declared.row.Content.TheVariants as content
use Rattle.text_spec.specs.declared.row.Place.TheVariants as place
use Rattle.text_spec.specs.declared.row.Source.TheVariants as source
use Rattle.text_spec.specs.declared.vocabulary.AttributeName.TheVariants as attribute
use Rattle.text_spec.specs.declared.vocabulary.ElementName.{ElementName}
use Rattle.text_spec.specs.declared.vocabulary.ElementName.TheVariants as element
use Rattle.text_spec.specs.Content.{known, content_fault}
use Rattle.text_spec.specs.DeviceList.{key_in, key_fault, with_key, device_fault, devices_fault, alone_fault}
use Rattle.text_spec.specs.DeviceText.{disk_rows, disk_of, target_dev, interface_rows, interface_of, mac_address, mac_in}
use Rattle.text_spec.specs.MacText.{mac_of}
use Rattle.text_spec.specs.Table.{rows_fault}
use Rattle.text_spec.specs.Tag.{is_among}
use Rattle.text_spec.specs.Tree.{Tree}
use Rattle.text_laws.specs.Given.{IsMacOf, IsDisk, IsInterface, AreDisksApart, mac_key, IsApart, with_mac_key, AreInterfacesApart}
use Rattle.text_laws.specs.Texts.{Of}
use Rattle.text_laws.proofs.ReadMacs.{Read, mac_read}
use Rattle.text_laws.proofs.ReadRows.{or_none, first_row, later_rows, Valued, needed_value, Perhaps, absent, there, optional_value, good_is}

fresh : (b : Bool) → not b ≡ true → b ≡ false
fresh true e = absurd cc
fresh false e = refl

unclashed : (names : List ElementName) (told : DefFault) (b : Bool) → ◌≡◌ {A = Option DefFault} (if b then Some told else None) None → b ≡ false
unclashed names told true e = absurd cc
unclashed names told false e = refl

-- ---- disks
-- the key of a disk whose rows find no fault
pub record Keyed (t : Tree) : Type 0 where
  pub key : List ℕ
  pub is_key : target_dev t ≡ Some key
  pub some : (length key == 0) ≡ false

filled_is : (t : Tree) → Valued (place.Child element.Target) (source.Attribute attribute.Dev) content.Filled t → Keyed t
unfolding content_fault
filled_is t v = record { key = v.value; is_key = v.is_value; some = fresh (length v.value == 0) (good_is (not (length v.value == 0)) v.good) }

disk_keyed : (names : List ElementName) (t : Tree) → rows_fault names disk_rows t ≡ None → Keyed t
unfolding disk_rows
disk_keyed names t e =
    filled_is t (needed_value (place.Child element.Target) (source.Attribute attribute.Dev) content.Filled t
    (first_row names _ _ t (later_rows 8 names disk_rows t e)).0)

dev_is : (t : Tree) (key : List ℕ) → target_dev t ≡ Some key → (disk_of t).target.dev ≡ key
unfolding disk_of
dev_is t key e = ap (λ o. unwrap_or o []) e

disk_is : (t : Tree) → Keyed t → IsDisk (disk_of t)
disk_is t k = ap (λ key. length key == 0) (dev_is t k.key k.is_key) ∙ k.some

pub disks_read : (names : List ElementName) (keys : List (List ℕ)) (ts : List Tree) → devices_fault of.Disk names keys ts ≡ None
    → AllByRecursion IsDisk (map disk_of ts) × AreDisksApart keys (map disk_of ts)
unfolding devices_fault device_fault key_in
disks_read names keys [] e = (tt, tt)
disks_read names keys (t ∷ ts) e =
    let parts = or_none (device_fault of.Disk names keys t) _ e in
    let own = or_none (rows_fault names disk_rows t) _ parts.0 in
    let k = disk_keyed names t own.0 in
    let dev = dev_is t k.key k.is_key in
    let free : is_among k.key keys ≡ false = unclashed names _ (is_among k.key keys) (rw k.is_key at own.1) in
    let rest = disks_read names (k.key ∷ keys) ts (rw k.is_key at parts.1) in
    let others = subst (λ key. AreDisksApart (key ∷ keys) (map disk_of ts)) (sym dev) rest.1 in
    ((disk_is t k, rest.0), (ap (λ key. is_among key keys) dev ∙ free, others))

-- ---- interfaces
mac_from : (text : List ℕ) (o : Option Mac) → Of (Read text) o → IsMacOf o
mac_from text None is = tt
mac_from text (Some m) is = is.is_mac

mac_by : (o : Option (List ℕ)) → IsMacOf (option_and_then mac_of o)
mac_by None = tt
mac_by (Some text) = mac_from text (mac_of text) (mac_read text)

pub interface_is : (t : Tree) → IsInterface (interface_of t)
unfolding interface_of
interface_is t = mac_by (mac_address t)

-- an address, and a key of its own
key_there : (t : Tree) (text : List ℕ) (o : Option Mac) → mac_address t ≡ Some text → mac_of text ≡ o → known o ≡ None
    → key_in of.Interface t ≡ option_map mac_key (mac_in t)
unfolding key_in
key_there t text None is at e = absurd cc
key_there t text (Some m) is at e =
    let read : Read text m = subst (Of (Read text)) at (mac_read text) in
    let found : mac_in t ≡ Some m = ap (option_and_then mac_of) is ∙ at in
    ap (option_map (λ x. map to_ascii_lowercase x)) is ∙ (ap (λ key. Some key) read.is_key ∙ sym (ap (option_map mac_key) found))

key_absent : (t : Tree) → mac_address t ≡ None → key_in of.Interface t ≡ option_map mac_key (mac_in t)
unfolding key_in
key_absent t is =
    ap (option_map (λ x. map to_ascii_lowercase x)) is ∙ sym (ap (λ o. option_map mac_key (option_and_then mac_of o)) is)

key_by : (t : Tree) → Perhaps (place.Child element.Mac) (source.Attribute attribute.Address) content.Mac t
    → key_in of.Interface t ≡ option_map mac_key (mac_in t)
unfolding content_fault
key_by t (absent is) = key_absent t is
key_by t (there v) = key_there t v.value (mac_of v.value) v.is_value refl v.good

interface_keyed : (names : List ElementName) (t : Tree) → rows_fault names interface_rows t ≡ None → key_in of.Interface t ≡ option_map mac_key (mac_in t)
unfolding interface_rows
interface_keyed names t e =
    key_by t (optional_value (place.Child element.Mac) (source.Attribute attribute.Address) content.Mac t
    (first_row names _ _ t (later_rows 1 names interface_rows t e)).0)

apart_by : (names : List ElementName) (keys : List (List ℕ)) (own : Option Mac) → key_fault of.Interface names keys (option_map mac_key own) ≡ None
    → IsApart keys own
apart_by names keys None e = tt
apart_by names keys (Some m) e = unclashed names _ (is_among (mac_key m) keys) e

more_keys : (keys : List (List ℕ)) (own : Option Mac) → with_key (option_map mac_key own) keys ≡ with_mac_key own keys
more_keys keys None = refl
more_keys keys (Some m) = refl

pub interfaces_read : (names : List ElementName) (keys : List (List ℕ)) (ts : List Tree) → devices_fault of.Interface names keys ts ≡ None
    → AllByRecursion IsInterface (map interface_of ts) × AreInterfacesApart keys (map interface_of ts)
unfolding devices_fault device_fault interface_of
interfaces_read names keys [] e = (tt, tt)
interfaces_read names keys (t ∷ ts) e =
    let parts = or_none (device_fault of.Interface names keys t) _ e in
    let own = or_none (rows_fault names interface_rows t) _ parts.0 in
    let key = interface_keyed names t own.0 in
    let apart = apart_by names keys (mac_in t) (rw key at own.1) in
    let rest = interfaces_read names (with_mac_key (mac_in t) keys) ts (rw (key, more_keys keys (mac_in t)) at parts.1) in
    ((interface_is t, rest.0), (apart, rest.1))

-- ---- a device on its own
pub disk_alone : (t : Tree) → alone_fault of.Disk t ≡ None → IsDisk (disk_of t)
disk_alone t e = disk_is t (disk_keyed (element.Disk ∷ []) t e)
