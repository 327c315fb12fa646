-- Definitions whose texts fit once they are filled in.
use Rattle.std.proofs.Common.{◌≡◌, ℕ, zero, suc, ◌+◌, ◌%◌, ◌<◌, List, [], ◌∷◌, ◌++◌, Bool, true, false, Option, Some, None, refl, sym, ◌∙◌, ap, subst, arith, append-nil}
use Rattle.std.specs.Prelude.{map, codes, chars, unwrap_or, if◌then◌else◌}
use Rattle.std.specs.List.{flat_map}
use Rattle.uuid.specs.Text.{hyphenated_text, lower}
use Rattle.types_base.specs.declared.device_def.DeviceDef.{DeviceDef}
use Rattle.types_base.specs.declared.device_def.DeviceDef.TheVariants as device
use Rattle.types_base.specs.declared.device_def.Interface.{Interface}
use Rattle.types_base.specs.declared.domain_def.DomainDef.{DomainDef}
use Rattle.types_base.specs.declared.mac.Mac.{Mac}
use Rattle.text_spec.specs.declared.vocabulary.AttributeName.TheVariants as attribute
use Rattle.text_spec.specs.declared.vocabulary.ElementName.{ElementName}
use Rattle.text_spec.specs.declared.vocabulary.ElementName.TheVariants as element
use Rattle.text_spec.specs.DevicePrinted.{any_mac, with_mac, mac_tree, interface_source_tree, interface_model_tree, interface_children, interface_tree, disk_tree, device_tree, device_fits}
use Rattle.text_spec.specs.DomainPrinted.{any_uuid, uuid_tree, script_trees, other_device_trees, device_trees, gathered, front_trees, middle_trees, domain_children, domain_tree, stood_in, domain_fits}
use Rattle.text_spec.specs.Fill.{tails, local_mac, is_taken, next_tail, raised, mac_among, with_own, IsUuidFilled, IsMacFilled, AreMacsFilled, IsFilled, IsAloneFilled, IsDeviceFilled}
use Rattle.text_spec.specs.Spelling.{pair, worded, present, fits}
use Rattle.types_base.specs.Mac.{mac_text}
use Rattle.text_spec.specs.Tree.{Tree}
use Rattle.text_spec.specs.Vocabulary.{attribute_word}
use Rattle.text_spec.specs.Words.{interface_type_word, domain_type_word}
use Rattle.text_spec.specs.Written.{in_value, attribute_written}
use Rattle.text_laws.specs.Given.{IsMac}
use Rattle.text_laws.proofs.Bare.{bare_text_room, bare_value_room, mac_bare, mac_length, uuid_bare, uuid_length}
use Rattle.text_laws.proofs.Lengths.{room, room_both, AreNoLonger, attributes_room, as_long, none_longer, both_longer, filled_longer, size_some, fits_too}

-- ---- identifiers
pub uuid_longer : (u v : List ℕ) → AreNoLonger (uuid_tree u ∷ []) (uuid_tree v ∷ [])
uuid_longer u v =
    filled_longer element.Uuid [] [] (hyphenated_text lower u) (hyphenated_text lower v) [] [] (omega arith)
    (omega (arith, bare_text_room (hyphenated_text lower u) (uuid_bare u), uuid_length u, bare_text_room (hyphenated_text lower v) (uuid_bare v), uuid_length v))
    (as_long [])

-- ---- addresses
address_front : List ℕ
address_front = (32 ∷ chars (attribute_word attribute.Address)) ++ codes "='"

address_room : (x : List ℕ) → attributes_room (pair attribute.Address x ∷ []) ≡ (room address_front + room (flat_map in_value (chars x))) + room (39 ∷ [])
unfolding address_front
address_room x =
    let value = flat_map in_value (chars x) in
    ap room (append-nil (attribute_written (pair attribute.Address x)))
    ∙ omega (arith, room_both (address_front ++ value) (39 ∷ []), room_both address_front value)

mac_longer : (m n : Mac) → IsMac m → IsMac n → AreNoLonger (mac_tree m ∷ []) (mac_tree n ∷ [])
mac_longer m n p q =
    filled_longer element.Mac (pair attribute.Address (mac_text m) ∷ []) (pair attribute.Address (mac_text n) ∷ []) [] [] [] []
    (omega (
      arith,
      address_room (mac_text m),
      bare_value_room (mac_text m) (mac_bare m p),
      mac_length m p,
      address_room (mac_text n),
      bare_value_room (mac_text n) (mac_bare n q),
      mac_length n q,
    ))
    (omega arith) (as_long [])

-- interfaces that differ by their addresses
interface_longer : (i : Interface) (a b : Option Mac) → AreNoLonger (present mac_tree a) (present mac_tree b)
    → AreNoLonger (interface_tree (record i { mac = a }) ∷ []) (interface_tree (record i { mac = b }) ∷ [])
unfolding interface_tree
interface_longer i a b macs =
    filled_longer element.Interface (pair attribute.Type (interface_type_word i.kind) ∷ []) (pair attribute.Type (interface_type_word i.kind) ∷ []) [] []
    (interface_children (record i { mac = a })) (interface_children (record i { mac = b })) (omega arith) (omega arith)
    (both_longer (present mac_tree a) (present mac_tree b) _ _ macs (as_long (present interface_source_tree i.source ++ present interface_model_tree i.model)))

-- ---- addresses that replace absent ones, and those that are filled in
any_is : IsMac any_mac
any_is = record { six = refl; bytes = omega arith }

pub local_is : (tail : ℕ) → tail < tails → IsMac (local_mac tail)
unfolding local_mac
local_is tail h = record { six = refl; bytes = (omega arith, (omega arith, (omega arith, (omega arith, (omega arith, (omega arith, tt)))))) }

either_below : (b : Bool) (x y most : ℕ) → x < most → y < most → (if b then x else y) < most
either_below true x y most p q = p
either_below false x y most p q = q

pub raised_below : (n : ℕ) (interfaces : List Interface) (tail : ℕ) → tail < tails → raised n interfaces tail < tails
unfolding raised
raised_below zero interfaces tail h = h
raised_below (suc n) interfaces tail h =
    either_below (is_taken interfaces (local_mac tail)) _ tail tails (raised_below n interfaces (next_tail tail) (omega arith)) h

pub among_is : (interfaces : List Interface) (word : ℕ) → IsMac (mac_among interfaces word)
among_is interfaces word = local_is (raised tails interfaces (word % tails)) (raised_below tails interfaces (word % tails) (omega arith))

-- ---- interfaces
own_kept : (i : Interface) (own : Option Mac) → i.mac ≡ own → record i { mac = own } ≡ i
own_kept i own e = ap (λ m. record i { mac = m }) (sym e)

stood_by : (i : Interface) (own : Option Mac) → i.mac ≡ own → with_mac i ≡ record i { mac = Some (unwrap_or own any_mac) }
stood_by i own e = ap (λ m. record i { mac = Some (unwrap_or m any_mac) }) e

-- an interface, and the same with an address where it has none
unfilled_by : (i : Interface) (own : Option Mac) → i.mac ≡ own → AreNoLonger (interface_tree i ∷ []) (interface_tree (with_mac i) ∷ [])
unfilled_by i None e =
    subst (λ j. AreNoLonger (interface_tree i ∷ []) (interface_tree j ∷ [])) (sym (stood_by i None e))
    (subst (λ j. AreNoLonger (interface_tree j ∷ []) (interface_tree (record i { mac = Some any_mac }) ∷ [])) (own_kept i None e)
    (interface_longer i None (Some any_mac) (none_longer (mac_tree any_mac ∷ []))))
unfilled_by i (Some m) e =
    subst (λ j. AreNoLonger (interface_tree i ∷ []) (interface_tree j ∷ [])) (sym (stood_by i (Some m) e ∙ own_kept i (Some m) e)) (as_long (interface_tree i ∷ []))

-- an interface that was filled in, and the same with any address in its place
filled_by : (words : List ℕ) (before : List Interface) (i j : Interface) (own : Option Mac) → i.mac ≡ own → IsMacFilled words before i own j
    → AreNoLonger (interface_tree j ∷ []) (interface_tree (with_mac i) ∷ [])
filled_by words before i j None e is =
    subst (λ k. AreNoLonger (interface_tree j ∷ []) (interface_tree k ∷ [])) (sym (stood_by i None e))
    (subst (λ k. AreNoLonger (interface_tree k ∷ []) (interface_tree (record i { mac = Some any_mac }) ∷ [])) (sym is.1)
    (interface_longer i (Some (mac_among before is.0)) (Some any_mac) (mac_longer (mac_among before is.0) any_mac (among_is before is.0) any_is)))
filled_by words before i j (Some m) e is =
    subst (λ k. AreNoLonger (interface_tree k ∷ []) (interface_tree (with_mac i) ∷ [])) (sym is.0) (unfilled_by i i.mac refl)

-- nothing is replaced where an interface was filled in
settled_by : (words : List ℕ) (before : List Interface) (i j : Interface) (own : Option Mac) → i.mac ≡ own → IsMacFilled words before i own j → with_mac j ≡ j
settled_by words before i j None e is = ap with_mac is.1 ∙ sym is.1
settled_by words before i j (Some m) e is = ap with_mac is.0 ∙ (stood_by i (Some m) e ∙ (own_kept i (Some m) e ∙ sym is.0))

all_unfilled : (is : List Interface) → AreNoLonger (map interface_tree is) (map interface_tree (map with_mac is))
all_unfilled [] = as_long []
all_unfilled (i ∷ is) =
    both_longer (interface_tree i ∷ []) (interface_tree (with_mac i) ∷ []) (map interface_tree is) (map interface_tree (map with_mac is))
    (unfilled_by i i.mac refl) (all_unfilled is)

all_filled : (words : List ℕ) (before is js : List Interface) → AreMacsFilled words before is js → AreNoLonger (map interface_tree js) (map interface_tree (map with_mac is))
all_filled words before [] [] are = as_long []
all_filled words before [] (j ∷ js) are = absurd are
all_filled words before (i ∷ is) [] are = absurd are
all_filled words before (i ∷ is) (j ∷ js) are =
    both_longer (interface_tree j ∷ []) (interface_tree (with_mac i) ∷ []) (map interface_tree js) (map interface_tree (map with_mac is))
    (filled_by are.0 (before ++ i ∷ is) i j i.mac refl are.2) (all_filled are.1 (before ++ j ∷ []) is js are.3)

all_settled : (words : List ℕ) (before is js : List Interface) → AreMacsFilled words before is js → map with_mac js ≡ js
all_settled words before [] [] are = refl
all_settled words before [] (j ∷ js) are = absurd are
all_settled words before (i ∷ is) [] are = absurd are
all_settled words before (i ∷ is) (j ∷ js) are =
    ap (λ k. k ∷ map with_mac js) (settled_by are.0 (before ++ i ∷ is) i j i.mac refl are.2) ∙ ap (λ ks. j ∷ ks) (all_settled are.1 (before ++ j ∷ []) is js are.3)

-- ---- domains
gathered_longer : (n : ElementName) (ts us : List Tree) → AreNoLonger ts us → AreNoLonger (gathered n ts) (gathered n us)
gathered_longer n [] us a = none_longer (gathered n us)
gathered_longer n (t ∷ ts) [] a = absurd (omega (arith, size_some t, a.elements))
gathered_longer n (t ∷ ts) (u ∷ us) a = filled_longer n [] [] [] [] (t ∷ ts) (u ∷ us) (omega arith) (omega arith) a

-- a domain with this identifier and these interfaces
abbrev pub with_parts : DomainDef → Option (List ℕ) → List Interface → DomainDef
with_parts d u is = record d { uuid = u; interfaces = is }

module _ (d : DomainDef) (u v : Option (List ℕ)) (is js : List Interface)
    (uuids : AreNoLonger (present uuid_tree u) (present uuid_tree v))
    (interfaces : AreNoLonger (map interface_tree is) (map interface_tree js)) where
  devices_longer : AreNoLonger (device_trees (with_parts d u is)) (device_trees (with_parts d v js))
  unfolding device_trees
  devices_longer =
      both_longer (present (worded element.Emulator []) d.emulator) (present (worded element.Emulator []) d.emulator) _ _ (as_long _)
      (both_longer (map disk_tree d.disks) (map disk_tree d.disks) _ _ (as_long _)
      (both_longer (map interface_tree is) (map interface_tree js) (other_device_trees d) (other_device_trees d) interfaces (as_long (other_device_trees d))))

  front_longer : AreNoLonger (front_trees (with_parts d u is)) (front_trees (with_parts d v js))
  unfolding front_trees
  front_longer =
      both_longer (worded element.Name [] d.name ∷ present uuid_tree u) (worded element.Name [] d.name ∷ present uuid_tree v) _ _
      (both_longer (worded element.Name [] d.name ∷ []) (worded element.Name [] d.name ∷ []) (present uuid_tree u) (present uuid_tree v) (as_long _) uuids)
      (as_long (present (worded element.Title []) d.title ++ (present (worded element.Description []) d.description ++ script_trees d.guest)))

  middle_longer : AreNoLonger (middle_trees (with_parts d u is)) (middle_trees (with_parts d v js))
  unfolding middle_trees
  middle_longer = as_long (middle_trees d)

  pub domain_longer : AreNoLonger (domain_tree (with_parts d u is) ∷ []) (domain_tree (with_parts d v js) ∷ [])
  unfolding domain_tree
  domain_longer =
      filled_longer element.Domain (pair attribute.Type (domain_type_word d.kind) ∷ []) (pair attribute.Type (domain_type_word d.kind) ∷ []) [] []
      (domain_children (with_parts d u is)) (domain_children (with_parts d v js)) (omega arith) (omega arith)
      (both_longer (front_trees (with_parts d u is)) (front_trees (with_parts d v js)) _ _ front_longer
      (both_longer (middle_trees (with_parts d u is)) (middle_trees (with_parts d v js)) _ _ middle_longer
      (gathered_longer element.Devices (device_trees (with_parts d u is)) (device_trees (with_parts d v js)) devices_longer)))

uuid_unfilled : (u : Option (List ℕ)) → AreNoLonger (present uuid_tree u) (present uuid_tree (Some (unwrap_or u any_uuid)))
uuid_unfilled None = none_longer (uuid_tree any_uuid ∷ [])
uuid_unfilled (Some u) = as_long (uuid_tree u ∷ [])

uuid_filled : (words : List ℕ) (u v : Option (List ℕ)) → IsUuidFilled words u v → AreNoLonger (present uuid_tree v) (present uuid_tree (Some (unwrap_or u any_uuid)))
uuid_filled words None None is = none_longer (uuid_tree any_uuid ∷ [])
uuid_filled words None (Some v) is = uuid_longer v any_uuid
uuid_filled words (Some u) v is = subst (λ w. AreNoLonger (present uuid_tree w) (uuid_tree u ∷ [])) (sym is.0) (as_long (uuid_tree u ∷ []))

uuid_settled : (words : List ℕ) (u v : Option (List ℕ)) → IsUuidFilled words u v → Some (unwrap_or v any_uuid) ≡ v
uuid_settled words None None is = let none = is.2 in cc
uuid_settled words None (Some v) is = refl
uuid_settled words (Some u) v is = ap (λ w. Some (unwrap_or w any_uuid)) is.0 ∙ sym is.0

pub domain_unfilled_fits : (d : DomainDef) → domain_fits d ≡ true → fits (domain_tree d) ≡ true
unfolding domain_fits stood_in
domain_unfilled_fits d e =
    fits_too (domain_tree d) (domain_tree (stood_in d))
    (domain_longer d d.uuid (Some (unwrap_or d.uuid any_uuid)) d.interfaces (map with_mac d.interfaces) (uuid_unfilled d.uuid) (all_unfilled d.interfaces)) e

pub domain_filled_fits : (d f : DomainDef) → domain_fits d ≡ true → IsFilled d f → fits (domain_tree f) ≡ true
unfolding domain_fits stood_in
domain_filled_fits d f e is =
    let same : f ≡ with_parts d f.uuid f.interfaces = is.1.others in
    fits_too (domain_tree f) (domain_tree (stood_in d))
    (subst (λ g. AreNoLonger (domain_tree g ∷ []) (domain_tree (stood_in d) ∷ [])) (sym same)
    (domain_longer d f.uuid (Some (unwrap_or d.uuid any_uuid)) f.interfaces (map with_mac d.interfaces) (uuid_filled is.1.for_uuid d.uuid f.uuid is.1.uuid)
    (all_filled is.1.for_macs [] d.interfaces f.interfaces is.1.macs)))
    e

domain_settled : (d f : DomainDef) → IsFilled d f → stood_in f ≡ f
unfolding stood_in
domain_settled d f is =
    ap (λ u. with_parts f u (map with_mac f.interfaces)) (uuid_settled is.1.for_uuid d.uuid f.uuid is.1.uuid)
    ∙ ap (λ js. with_parts f f.uuid js) (all_settled is.1.for_macs [] d.interfaces f.interfaces is.1.macs)

pub domain_filled_again : (d f : DomainDef) → domain_fits d ≡ true → IsFilled d f → domain_fits f ≡ true
unfolding domain_fits
domain_filled_again d f e is = ap (λ g. fits (domain_tree g)) (domain_settled d f is) ∙ domain_filled_fits d f e is

-- ---- devices
pub device_unfilled_fits : (d : DeviceDef) → device_fits d ≡ true → fits (device_tree d) ≡ true
unfolding device_fits device_tree
device_unfilled_fits (device.Disk d) e = e
device_unfilled_fits (device.Interface i) e = fits_too (interface_tree i) (interface_tree (with_mac i)) (unfilled_by i i.mac refl) e

alone_by : (words : List ℕ) (i : Interface) (own : Option Mac) (f : DeviceDef) → i.mac ≡ own → IsAloneFilled words i own f
    → (j : Interface) × (f ≡ device.Interface j) × AreNoLonger (interface_tree j ∷ []) (interface_tree (with_mac i) ∷ []) × (with_mac j ≡ j)
alone_by words i None f e is =
    let mac = local_mac (is.0 % tails) in (
      with_own i mac,
      is.1,
      subst (λ k. AreNoLonger (interface_tree (with_own i mac) ∷ []) (interface_tree k ∷ [])) (sym (stood_by i None e))
          (interface_longer i (Some mac) (Some any_mac) (mac_longer mac any_mac (local_is (is.0 % tails) (omega arith)) any_is)),
      refl,
    )
alone_by words i (Some m) f e is = (i, is.0, unfilled_by i i.mac refl, stood_by i (Some m) e ∙ own_kept i (Some m) e)

pub device_filled_fits : (d f : DeviceDef) → device_fits d ≡ true → IsDeviceFilled d f → fits (device_tree f) ≡ true
unfolding device_fits device_tree
device_filled_fits (device.Disk d) f e is = ap (λ g. fits (device_tree g)) is.1.0 ∙ e
device_filled_fits (device.Interface i) f e is =
    let one = alone_by is.0 i i.mac f refl is.1 in
    ap (λ g. fits (device_tree g)) one.1 ∙ fits_too (interface_tree one.0) (interface_tree (with_mac i)) one.2 e

pub device_filled_again : (d f : DeviceDef) → device_fits d ≡ true → IsDeviceFilled d f → device_fits f ≡ true
unfolding device_fits device_tree
device_filled_again (device.Disk d) f e is = ap device_fits is.1.0 ∙ e
device_filled_again (device.Interface i) f e is =
    let one = alone_by is.0 i i.mac f refl is.1 in
    ap device_fits one.1 ∙ (ap (λ j. fits (interface_tree j)) one.3 ∙ fits_too (interface_tree one.0) (interface_tree (with_mac i)) one.2 e)
