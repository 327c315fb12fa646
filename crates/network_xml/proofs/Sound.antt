-- What a whole text says of a network is sound.
use Rattle.std.proofs.Common.{◌≡◌, ℕ, ◌^◌, ◌<◌, Bool, true, false, List, [], ◌∷◌, Option, Some, None, Result, Ok, Err, refl, subst, arith}
use Rattle.std.specs.Prelude.{◌&&◌, codes, nat_le, option_and_then}
use Rattle.std.specs.List.{AllByRecursion}
use Rattle.std.proofs.lemmas.Bool.Decides.{nat_tests}
use Rattle.types_base.specs.Name.{bad_place}
use Rattle.types_base.specs.declared.mac.Mac.{Mac}
use Rattle.types_base.specs.declared.network_def.AddressRange.{AddressRange}
use Rattle.types_base.specs.declared.network_def.Dhcp.{Dhcp}
use Rattle.types_base.specs.declared.network_def.HostLine.{HostLine}
use Rattle.types_base.specs.declared.network_def.NetDef.{NetDef}
use Rattle.types_base.specs.declared.network_def.NetIp.{NetIp}
use Rattle.procedure_spec.specs.LeaseText.{address_written}
use Rattle.procedure_spec.proofs.LeaseTexts.{address_found}
use Rattle.text_spec.specs.declared.definition.DefFault.{DefFault}
use Rattle.text_spec.specs.declared.definition.DefKind.TheVariants as kind
use Rattle.text_spec.specs.MacText.{mac_of}
use Rattle.text_spec.specs.Table.{fault_of_root, root_fault}
use Rattle.text_spec.specs.Text.{most_levels, read_of}
use Rattle.text_spec.specs.Tree.{Tree}
use Rattle.text_spec.specs.Units.{number_of}
use Rattle.text_spec.specs.Writable.{IsText}
use Rattle.text_laws.specs.Formed.{IsFormed}
use Rattle.text_laws.specs.Given.{IsMac, IsUuidOf, IsValue, IsWithin}
use Rattle.text_laws.specs.Texts.{Of}
use Rattle.text_laws.proofs.Parts.{both_of}
use Rattle.text_laws.proofs.ReadMacs.{Read, mac_read}
use Rattle.xml_tables.specs.Called.{all_called, first_called, is_called, text_called, value_called}
use Rattle.xml_tables.specs.Rows.{needed, optional, present}
use Rattle.xml_tables.specs.Values.{name_value, uuid_value}
use Rattle.xml_tables.proofs.Found.{Formed, all_formed, first_formed, text_formed, then_of, value_formed}
use Rattle.xml_tables.proofs.Identifiers.{uuid_was}
use Rattle.xml_tables.proofs.Was.{at_was, fitting_was, known_was, name_was, needed_was, optional_was, root_was, same_value, then_was}
use Rattle.network_xml.specs.Addresses.{contains, has_range, ones_of}
use Rattle.network_xml.specs.NetworkPrinted.{network_fits}
use Rattle.network_xml.specs.NetworkText.{a_prefix, address_value, bridge_in, dhcp_of, host_of, hosts_of, if_there, in_range, ip_of, mac_value, mask_value, mode_in, mode_value, network_in, network_of, network_read, prefix_of, prefix_value, range_of}
use Rattle.network_xml.specs.ReadsAs.{IsSoundDhcp, IsSoundHost, IsSoundIp, IsSoundNetwork, IsSoundRange, ReadsAsNetwork}
use Rattle.network_xml.specs.declared.subnet.Subnet.{Subnet}

-- ---- values
anything : {A : Type 0} (o : Option A) → Of (λ x. Unit {0}) o
anything None = tt
anything (Some x) = tt

abbrev Small : ℕ → Type 0
Small n = n < 2 ^ 32

address_was : (text : List ℕ) (n : ℕ) → address_value text ≡ Ok n → Small n
address_was text n e = (address_found text n (known_was (address_written text) n e)).0

mac_by : (text : List ℕ) (o : Option Mac) (m : Mac) → Of (Read text) o → o ≡ Some m → IsMac m
mac_by text None m read e = absurd cc
mac_by text (Some x) m read e = let same : x ≡ m = cc in subst IsMac same read.is_mac

mac_was : (text : List ℕ) (m : Mac) → mac_value text ≡ Ok m → IsMac m
mac_was text m e = mac_by text (mac_of text) m (mac_read text) (known_was (mac_of text) m e)

needed_address : (path : List ℕ) (o : Option (List ℕ)) (n : ℕ) → needed path address_value o ≡ Ok n → Small n
needed_address path o n e = needed_was (λ x. Unit {0}) Small path address_value (λ text a is was. address_was text a was) o n (anything o) e

needed_mac : (path : List ℕ) (o : Option (List ℕ)) (m : Mac) → needed path mac_value o ≡ Ok m → IsMac m
needed_mac path o m e = needed_was (λ x. Unit {0}) IsMac path mac_value (λ text a is was. mac_was text a was) o m (anything o) e

in_range_was : {A : Type 0} (b : Bool) (x v : A) → in_range b x ≡ Ok v → (b ≡ true) × (x ≡ v)
in_range_was true x v e = (refl, cc)
in_range_was false x v e = absurd cc

a_prefix_was : (o : Option ℕ) (n : ℕ) → a_prefix o ≡ Ok n → IsWithin 1 30 n
a_prefix_was None n e = absurd cc
a_prefix_was (Some p) n e =
    let range = in_range_was (nat_le 1 p && nat_le p 30) p n e in
    let parts = both_of (nat_le 1 p) (nat_le p 30) range.0 in
    subst (IsWithin 1 30) range.1 (grind (arith, nat_tests, parts.0), grind (arith, nat_tests, parts.1))

prefix_was : (mask prefix : Option (List ℕ)) (n : ℕ) → prefix_of mask prefix ≡ Ok n → IsWithin 1 30 n
prefix_was (Some mask) prefix n e = a_prefix_was (option_and_then ones_of (address_written mask)) n (at_was (codes "/network/ip") (mask_value mask) n e)
prefix_was None prefix n e = needed_was (λ x. Unit {0}) (IsWithin 1 30) (codes "/network/ip") prefix_value (λ text a is was. a_prefix_was (number_of text) a was) prefix n (anything prefix) e

-- a part that may be absent
module _ {A : Type 0} (P : A → Type 0) (read : Tree → Result A DefFault) (each : (t : Tree) (a : A) → Formed t → read t ≡ Ok a → P a) where
  present_was : (t : Tree) (r : Result A DefFault) (v : Option A) → Formed t → read t ≡ r → present r ≡ Ok v → Of P v
  present_was t (Ok a) v f was e = subst (Of P) (let same : Some a ≡ v = cc in same) (each t a f was)
  present_was t (Err fault) v f was e = absurd cc

  there_was : (o : Option Tree) (v : Option A) → Of Formed o → if_there read o ≡ Ok v → Of P v
  there_was None v f e = subst (Of P) (let same : None ≡ v = cc in same) tt
  there_was (Some t) v f e = present_was t (read t) v f refl e

-- ---- the parts of `dhcp`
range_sound : (subnet : Subnet) (t : Tree) (range : AddressRange) → Formed t → range_of subnet t ≡ Ok range → IsSoundRange subnet range
unfolding range_of
range_sound subnet t range f e =
    let path = codes "/network/ip/dhcp/range" in
    let a = then_was _ _ range e in
    let b = then_was _ _ range a.next_was in
    let made : AddressRange = record { start = a.value; end = b.value } in
    let within = in_range_was (has_range subnet made) made range (at_was path (in_range (has_range subnet made) made) range b.next_was) in
    subst (IsSoundRange subnet) within.1 (record {
      start = needed_address path (value_called (codes "start") t) a.value a.was;
      end = needed_address path (value_called (codes "end") t) b.value b.was;
      within = within.0;
    })

host_sound : (subnet : Subnet) (t : Tree) (host : HostLine) → Formed t → host_of subnet t ≡ Ok host → IsSoundHost subnet host
unfolding host_of
host_sound subnet t host f e =
    let path = codes "/network/ip/dhcp/host" in
    let a = then_was _ _ host e in
    let b = then_was _ _ host a.next_was in
    let made : HostLine = record { mac = a.value; address = b.value } in
    let within = in_range_was (contains subnet b.value) made host (at_was path (in_range (contains subnet b.value) made) host b.next_was) in
    subst (IsSoundHost subnet) within.1 (record {
      mac = needed_mac path (value_called (codes "mac") t) a.value a.was;
      address = needed_address path (value_called (codes "ip") t) b.value b.was;
      within = within.0;
    })

hosts_sound : (subnet : Subnet) (ts : List Tree) (hosts : List HostLine) → AllByRecursion Formed ts → hosts_of subnet ts ≡ Ok hosts → AllByRecursion (IsSoundHost subnet) hosts
hosts_sound subnet [] hosts all e = subst (AllByRecursion (IsSoundHost subnet)) (same_value [] hosts e) tt
hosts_sound subnet (t ∷ ts) hosts all e =
    let a = then_was _ _ hosts e in
    let b = then_was _ _ hosts a.next_was in
    subst (AllByRecursion (IsSoundHost subnet)) (same_value (a.value ∷ b.value) hosts b.next_was)
    (host_sound subnet t a.value all.0 a.was, hosts_sound subnet ts b.value all.1 b.was)

dhcp_sound : (subnet : Subnet) (t : Tree) (dhcp : Dhcp) → Formed t → dhcp_of subnet t ≡ Ok dhcp → IsSoundDhcp subnet dhcp
unfolding dhcp_of
dhcp_sound subnet t dhcp f e =
    let a = then_was _ _ dhcp e in
    let b = then_was _ _ dhcp a.next_was in
    let made : Dhcp = record { range = a.value; hosts = b.value } in
    subst (IsSoundDhcp subnet) (same_value made dhcp b.next_was) (record {
      range = there_was (IsSoundRange subnet) (range_of subnet) (range_sound subnet) (first_called (codes "range") t) a.value (first_formed (codes "range") t f) a.was;
      hosts = hosts_sound subnet (all_called (codes "host") t) b.value (all_formed (codes "host") t f) b.was;
    })

-- ---- `ip`
ip_sound : (t : Tree) (ip : NetIp) → Formed t → ip_of t ≡ Ok ip → IsSoundIp ip
unfolding ip_of
ip_sound t ip f e =
    let a = then_was _ _ ip e in
    let b = then_was _ _ ip a.next_was in
    let c = then_was _ _ ip b.next_was in
    let subnet : Subnet = record { address = a.value; prefix = b.value } in
    let made : NetIp = record { address = a.value; prefix = b.value; dhcp = c.value } in
    subst IsSoundIp (same_value made ip c.next_was) (record {
      address = needed_address (codes "/network/ip") (value_called (codes "address") t) a.value a.was;
      prefix = prefix_was (value_called (codes "netmask") t) (value_called (codes "prefix") t) b.value b.was;
      dhcp = there_was (IsSoundDhcp subnet) (dhcp_of subnet) (dhcp_sound subnet) (first_called (codes "dhcp") t) c.value (first_formed (codes "dhcp") t f) c.was;
    })

-- ---- the network
record Named (name : List ℕ) : Type 0 where
  place : bad_place name ≡ None
  is_text : IsText name

named : (t : Tree) (name : List ℕ) → Formed t → needed (codes "/network/name") name_value (text_called (codes "name") t) ≡ Ok name → Named name
named t name f e =
    needed_was IsText Named (codes "/network/name") name_value
    (λ text a is was. let both = name_was text a was in subst Named both.0 (record { place = both.1; is_text = is }))
    (text_called (codes "name") t) name (text_formed (codes "name") t f) e

uuid_by : (uuid : Option (List ℕ)) → Of (λ u. IsUuidOf (Some u)) uuid → IsUuidOf uuid
uuid_by None is = tt
uuid_by (Some u) is = is

identified : (t : Tree) (uuid : Option (List ℕ)) → Formed t → optional (codes "/network/uuid") uuid_value (text_called (codes "uuid") t) ≡ Ok uuid → IsUuidOf uuid
identified t uuid f e =
    uuid_by uuid (optional_was IsText (λ u. IsUuidOf (Some u)) (codes "/network/uuid") uuid_value (λ text a is was. uuid_was text a was) (text_called (codes "uuid") t) uuid (text_formed (codes "uuid") t f) e)

bridge_formed : (t : Tree) → Formed t → Of IsValue (bridge_in t)
unfolding bridge_in
bridge_formed t f = then_of Formed IsValue (value_called (codes "name")) (λ x g. value_formed (codes "name") x g) (first_called (codes "bridge") t) (first_formed (codes "bridge") t f)

-- all that is sound of a network but the length of its text
record Good (d : NetDef) : Type 0 where
  name : Named d.name
  uuid : IsUuidOf d.uuid
  bridge : Of IsValue d.bridge
  ip : Of IsSoundIp d.ip

good : (t : Tree) (d : NetDef) → Formed t → network_of t ≡ Ok d → Good d
unfolding network_of
good t d f e =
    let a = then_was _ _ d e in
    let b = then_was _ _ d a.next_was in
    let c = then_was (optional (codes "/network/forward") mode_value (mode_in t)) _ d b.next_was in
    let g = then_was (if_there ip_of (first_called (codes "ip") t)) (λ ip. Ok (record { name = a.value; uuid = b.value; forward = c.value; bridge = bridge_in t; ip = ip })) d c.next_was in
    let made : NetDef = record { name = a.value; uuid = b.value; forward = c.value; bridge = bridge_in t; ip = g.value } in
    subst Good (same_value made d g.next_was) (record {
      name = named t a.value f a.was;
      uuid = identified t b.value f b.was;
      bridge = bridge_formed t f;
      ip = there_was IsSoundIp ip_of ip_sound (first_called (codes "ip") t) g.value (first_formed (codes "ip") t f) g.was;
    })

of_root : (t : Tree) (d : NetDef) → network_in t ≡ Ok d → network_of t ≡ Ok d
unfolding network_in
of_root t d e = root_was (is_called (codes "network") t) (network_of t) (root_fault t) d e

network_sound : (t : Tree) (d : NetDef) → Formed t → network_read t ≡ Ok d → IsSoundNetwork d
unfolding network_read
network_sound t d f e =
    let read = fitting_was (fault_of_root kind.TooLong t) network_fits (network_in t) d e in
    let is = good t d f (of_root t d read.was) in
    record { name = is.name.place; name_text = is.name.is_text; uuid = is.uuid; bridge = is.bridge; ip = is.ip; fitting = read.fitting }

pub read_sound : ((bytes : List ℕ) (t : Tree) → read_of bytes ≡ Ok t → IsFormed t) → (text : List ℕ) → (d : NetDef) → ReadsAsNetwork text d → IsSoundNetwork d
read_sound formed text d r = network_sound r.tree d (record { depth = most_levels; is = (formed text r.tree r.is_tree).tree }) r.is_network
