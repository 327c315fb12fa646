-- Networks that are printed are read again.
use Rattle.std.proofs.Common.{◌≡◌, ℕ, ◌^◌, ◌<◌, ◌≤◌, List, [], ◌∷◌, ◌++◌, true, false, Option, Some, None, Ok, refl, sym, ap, ◌∙◌, subst, arith}
use Rattle.std.specs.Prelude.{codes, chars, decimal, filter, find, map, option_and_then, option_map, slice_index}
use Rattle.std.specs.Int.{w32, to_be_bytes}
use Rattle.std.specs.List.{AllByRecursion, flat_map}
use Rattle.std.specs.Net.Text.{dotted_text}
use Rattle.std.specs.Str.{IsAscii}
use Rattle.std.proofs.lemmas.Str.{chars-IsAscii}
use Rattle.uuid.specs.Parts.{zero_bytes}
use Rattle.uuid.specs.Text.{hyphenated_text, lower}
use Rattle.types_base.specs.Mac.{mac_text}
use Rattle.types_base.specs.declared.network_def.AddressRange.{AddressRange}
use Rattle.types_base.specs.declared.network_def.Dhcp.{Dhcp}
use Rattle.types_base.specs.declared.network_def.ForwardMode.{ForwardMode}
use Rattle.types_base.specs.declared.network_def.ForwardMode.TheVariants as mode
use Rattle.types_base.specs.declared.network_def.HostLine.{HostLine}
use Rattle.types_base.specs.declared.network_def.NetDef.{NetDef}
use Rattle.types_base.specs.declared.network_def.NetIp.{NetIp}
use Rattle.procedure_spec.specs.LeaseText.{address_text}
use Rattle.procedure_spec.proofs.LeaseTexts.{address_again}
use Rattle.text_spec.specs.Character.{is_name_start, is_name_char}
use Rattle.text_spec.specs.Fill.{IsUuidFilled}
use Rattle.text_spec.specs.Look.{text_of}
use Rattle.text_spec.specs.Spelling.{fits}
use Rattle.text_spec.specs.Tag.{is_among}
use Rattle.text_spec.specs.Text.{read_of}
use Rattle.text_spec.specs.Tree.{Tree, trees, none}
use Rattle.text_spec.specs.Writable.{AreAttributes, IsNamed, IsTree, IsWritable}
use Rattle.text_spec.specs.Written.{written, in_text, deeper, trees_written}
use Rattle.text_spec.proofs.Seen.{listed-trees}
use Rattle.text_laws.specs.Given.{IsMac, IsValue}
use Rattle.text_laws.specs.Texts.{Of}
use Rattle.text_laws.proofs.Allowed.{both_all}
use Rattle.text_laws.proofs.Bare.{mac_plain}
use Rattle.text_laws.proofs.Lengths.{AreNoLonger, as_long, both_longer, first_room, fits_too, none_longer, tree_room, with_room}
use Rattle.text_laws.proofs.Macs.{mac_back}
use Rattle.text_laws.proofs.Plain.{ArePlain, ascii, decimal_plain, named_by, plain_value, word_value}
use Rattle.xml_tables.specs.Called.{all_called, first_called, is_called, is_pair_called, text_called, value_called}
use Rattle.xml_tables.specs.Spelled.{spelled, worded, worth}
use Rattle.xml_tables.specs.Rows.{optional}
use Rattle.xml_tables.specs.Values.{uuid_tree}
use Rattle.xml_tables.proofs.Again.{identifier_back, name_back}
use Rattle.xml_tables.proofs.Identifiers.{uuid_filled, uuid_longer}
use Rattle.xml_tables.proofs.Formed.{first_in, holder_formed, one_attribute, uuid_formed, word_formed, writable}
use Rattle.network_xml.specs.Addresses.{mask_of}
use Rattle.network_xml.proofs.Masks.{is_le, mask_small, ones_back}
use Rattle.network_xml.specs.NetworkPrinted.{bridge_tree, dhcp_tree, forward_tree, host_tree, identified, if_some, ip_tree, mode_word, network_fits, network_tree, range_tree}
use Rattle.network_xml.specs.NetworkText.{address_value, bridge_in, dhcp_of, host_of, hosts_of, if_there, ip_of, mac_value, mask_value, mode_in, mode_value, network_in, network_of, network_read, range_of}
use Rattle.network_xml.specs.ReadsAs.{IsSoundDhcp, IsSoundHost, IsSoundIp, IsSoundNetwork, IsSoundRange, ReadsAsNetwork}
use Rattle.network_xml.specs.declared.subnet.Subnet.{Subnet}

-- ---- names of elements and attributes
network_named : IsNamed (codes "network")
unfolding is_name_start is_name_char
network_named = named_by _ _ refl refl refl

name_named : IsNamed (codes "name")
unfolding is_name_start is_name_char
name_named = named_by _ _ refl refl refl

forward_named : IsNamed (codes "forward")
unfolding is_name_start is_name_char
forward_named = named_by _ _ refl refl refl

bridge_named : IsNamed (codes "bridge")
unfolding is_name_start is_name_char
bridge_named = named_by _ _ refl refl refl

ip_named : IsNamed (codes "ip")
unfolding is_name_start is_name_char
ip_named = named_by _ _ refl refl refl

dhcp_named : IsNamed (codes "dhcp")
unfolding is_name_start is_name_char
dhcp_named = named_by _ _ refl refl refl

range_named : IsNamed (codes "range")
unfolding is_name_start is_name_char
range_named = named_by _ _ refl refl refl

host_named : IsNamed (codes "host")
unfolding is_name_start is_name_char
host_named = named_by _ _ refl refl refl

mode_named : IsNamed (codes "mode")
unfolding is_name_start is_name_char
mode_named = named_by _ _ refl refl refl

address_named : IsNamed (codes "address")
unfolding is_name_start is_name_char
address_named = named_by _ _ refl refl refl

netmask_named : IsNamed (codes "netmask")
unfolding is_name_start is_name_char
netmask_named = named_by _ _ refl refl refl

start_named : IsNamed (codes "start")
unfolding is_name_start is_name_char
start_named = named_by _ _ refl refl refl

end_named : IsNamed (codes "end")
unfolding is_name_start is_name_char
end_named = named_by _ _ refl refl refl

mac_named : IsNamed (codes "mac")
unfolding is_name_start is_name_char
mac_named = named_by _ _ refl refl refl

-- ---- addresses as values
dotted : (xs ys : List ℕ) → ArePlain xs → ArePlain ys → ArePlain (xs ++ codes "." ++ ys)
dotted xs ys one two = both_all _ (xs ++ codes ".") ys (both_all _ xs (codes ".") one ((omega arith, omega arith), tt)) two

octet_plain : (n : ℕ) → n < 256 → ArePlain (decimal n)
octet_plain n small = decimal_plain n (omega (arith, small))

four_plain : (a b c d : ℕ) → a < 256 → b < 256 → c < 256 → d < 256 → ArePlain (dotted_text a b c d)
four_plain a b c d p q r s =
    dotted (decimal a ++ codes "." ++ decimal b ++ codes "." ++ decimal c) (decimal d)
    (dotted (decimal a ++ codes "." ++ decimal b) (decimal c) (dotted (decimal a) (decimal b) (octet_plain a p) (octet_plain b q)) (octet_plain c r)) (octet_plain d s)

address_valued : (n : ℕ) → IsValue (address_text n)
address_valued n =
    let o = to_be_bytes w32 n in
    plain_value (address_text n) (four_plain (slice_index o 0) (slice_index o 1) (slice_index o 2) (slice_index o 3) (omega arith) (omega arith) (omega arith) (omega arith))

-- ---- names of attributes as characters
start_ascii : IsAscii (codes "start")
start_ascii = ascii (codes "start") ((omega arith, omega arith), ((omega arith, omega arith), ((omega arith, omega arith), ((omega arith, omega arith), ((omega arith, omega arith), tt)))))

end_ascii : IsAscii (codes "end")
end_ascii = ascii (codes "end") ((omega arith, omega arith), ((omega arith, omega arith), ((omega arith, omega arith), tt)))

mac_ascii : IsAscii (codes "mac")
mac_ascii = ascii (codes "mac") ((omega arith, omega arith), ((omega arith, omega arith), ((omega arith, omega arith), tt)))

ip_ascii : IsAscii (codes "ip")
ip_ascii = ascii (codes "ip") ((omega arith, omega arith), ((omega arith, omega arith), tt))

address_ascii : IsAscii (codes "address")
address_ascii = ascii (codes "address") ((omega arith, omega arith), ((omega arith, omega arith), ((omega arith, omega arith), ((omega arith, omega arith), ((omega arith, omega arith), ((omega arith, omega arith), ((omega arith, omega arith), tt)))))))

netmask_ascii : IsAscii (codes "netmask")
netmask_ascii = ascii (codes "netmask") ((omega arith, omega arith), ((omega arith, omega arith), ((omega arith, omega arith), ((omega arith, omega arith), ((omega arith, omega arith), ((omega arith, omega arith), ((omega arith, omega arith), tt)))))))

-- ---- what is printed can be written
two_attributes : (one other v w : List ℕ) → IsNamed one → IsNamed other → IsValue v → IsValue w → IsAscii one → IsAscii other → is_among other (one ∷ []) ≡ false → AreAttributes [] (worth one v ∷ worth other w ∷ [])
two_attributes one other v w p q x y first second apart = (
  record { name_utf8 = p.utf8; name = p.name_chars; value_utf8 = x.utf8; value = x.value_chars },
  refl,
  (
    record { name_utf8 = q.utf8; name = q.name_chars; value_utf8 = y.utf8; value = y.value_chars },
    (λ i. is_among (chars-IsAscii other second i) (chars-IsAscii one first i ∷ [])) ∙ apart,
    tt,
  ),
)

module _ (depth : ℕ) where
  some_formed : {A : Type 0} (P : A → Type 0) (tree : A → Tree) → ((x : A) → P x → IsTree depth (tree x)) → (o : Option A) → Of P o → AllByRecursion (IsTree depth) (if_some tree o)
  some_formed P tree each None is = tt
  some_formed P tree each (Some x) is = (each x is, tt)

  all_formed : {A : Type 0} (P : A → Type 0) (tree : A → Tree) → ((x : A) → P x → IsTree depth (tree x)) → (xs : List A) → AllByRecursion P xs → AllByRecursion (IsTree depth) (map tree xs)
  all_formed P tree each [] all = tt
  all_formed P tree each (x ∷ xs) all = (each x all.0, all_formed P tree each xs all.1)

range_formed : (subnet : Subnet) (range : AddressRange) → IsSoundRange subnet range → IsTree 29 (range_tree range)
range_formed subnet range is =
    holder_formed 28 (codes "range") (worth (codes "start") (address_text range.start) ∷ worth (codes "end") (address_text range.end) ∷ []) [] range_named (two_attributes (codes "start") (codes "end") (address_text range.start) (address_text range.end) start_named end_named (address_valued range.start) (address_valued range.end) start_ascii end_ascii refl) tt

host_formed : (subnet : Subnet) (host : HostLine) → IsSoundHost subnet host → IsTree 29 (host_tree host)
host_formed subnet host is =
    holder_formed 28 (codes "host") (worth (codes "mac") (mac_text host.mac) ∷ worth (codes "ip") (address_text host.address) ∷ []) [] host_named (two_attributes (codes "mac") (codes "ip") (mac_text host.mac) (address_text host.address) mac_named ip_named (plain_value (mac_text host.mac) (mac_plain host.mac is.mac)) (address_valued host.address) mac_ascii ip_ascii refl) tt

dhcp_formed : (subnet : Subnet) (dhcp : Dhcp) → IsSoundDhcp subnet dhcp → IsTree 30 (dhcp_tree dhcp)
dhcp_formed subnet dhcp is =
    holder_formed 29 (codes "dhcp") [] (if_some range_tree dhcp.range ++ map host_tree dhcp.hosts) dhcp_named tt
    (both_all _ (if_some range_tree dhcp.range) (map host_tree dhcp.hosts) (some_formed 29 (IsSoundRange subnet) range_tree (range_formed subnet) dhcp.range is.range)
    (all_formed 29 (IsSoundHost subnet) host_tree (host_formed subnet) dhcp.hosts is.hosts))

ip_formed : (ip : NetIp) → IsSoundIp ip → IsTree 31 (ip_tree ip)
ip_formed ip is =
    let subnet : Subnet = record { address = ip.address; prefix = ip.prefix } in
    holder_formed 30 (codes "ip") (worth (codes "address") (address_text ip.address) ∷ worth (codes "netmask") (address_text (mask_of ip.prefix)) ∷ []) (if_some dhcp_tree ip.dhcp) ip_named
    (two_attributes (codes "address") (codes "netmask") (address_text ip.address) (address_text (mask_of ip.prefix)) address_named netmask_named (address_valued ip.address) (address_valued (mask_of ip.prefix)) address_ascii netmask_ascii refl)
    (some_formed 30 (IsSoundDhcp subnet) dhcp_tree (dhcp_formed subnet) ip.dhcp is.dhcp)

mode_valued : (m : ForwardMode) → IsValue (mode_word m)
mode_valued mode.Nat = word_value _ refl
mode_valued mode.Route = word_value _ refl

forward_formed : (m : ForwardMode) → Unit {0} → IsTree 31 (forward_tree m)
forward_formed m is = holder_formed 30 (codes "forward") (worth (codes "mode") (mode_word m) ∷ []) [] forward_named (one_attribute (codes "mode") (mode_word m) mode_named (mode_valued m)) tt

bridge_formed : (name : List ℕ) → IsValue name → IsTree 31 (bridge_tree name)
bridge_formed name is = holder_formed 30 (codes "bridge") (worth (codes "name") name ∷ []) [] bridge_named (one_attribute (codes "name") name name_named is) tt

some_mode : (m : Option ForwardMode) → Of (λ x. Unit {0}) m
some_mode None = tt
some_mode (Some m) = tt

abbrev behind : NetDef → List Tree
behind d = if_some forward_tree d.forward ++ (if_some bridge_tree d.bridge ++ if_some ip_tree d.ip)

abbrev laid : NetDef → List Tree
laid d = worded (codes "name") d.name ∷ if_some uuid_tree d.uuid ++ behind d

formed : (d : NetDef) → IsSoundNetwork d → IsTree 32 (network_tree d)
unfolding network_tree
formed d is =
    holder_formed 31 (codes "network") [] (laid d) network_named tt (
      word_formed 30 (codes "name") d.name name_named is.name_text,
      both_all _ (if_some uuid_tree d.uuid) _ (uuid_formed 30 d.uuid)
          (both_all _ (if_some forward_tree d.forward) _ (some_formed 31 (λ x. Unit {0}) forward_tree forward_formed d.forward (some_mode d.forward))
          (both_all _ (if_some bridge_tree d.bridge) _ (some_formed 31 IsValue bridge_tree bridge_formed d.bridge is.bridge)
          (some_formed 31 IsSoundIp ip_tree ip_formed d.ip is.ip))),
    )

-- ---- with an identifier a text is no shorter
longer : (ts us : List Tree) (t u : Tree) → AreNoLonger (t ∷ ts) (u ∷ us) → AreNoLonger (spelled (codes "network") [] [] (t ∷ ts) ∷ []) (spelled (codes "network") [] [] (u ∷ us) ∷ [])
longer ts us t u a = record {
  bytes = λ inset. omega (
    arith,
    first_room inset (spelled (codes "network") [] [] (t ∷ ts)) none,
    first_room inset (spelled (codes "network") [] [] (u ∷ us)) none,
    tree_room inset (codes "network") [] [] (trees (t ∷ ts)),
    tree_room inset (codes "network") [] [] (trees (u ∷ us)),
    with_room inset (chars (codes "network")) (flat_map in_text (chars [])) (trees_written (deeper inset) (trees (t ∷ ts))),
    with_room inset (chars (codes "network")) (flat_map in_text (chars [])) (trees_written (deeper inset) (trees (u ∷ us))),
    a.bytes (deeper inset),
  );
  elements = omega (arith, a.elements);
}

unidentified : (d : NetDef) (uuid : List ℕ) → AreNoLonger (network_tree (record d { uuid = None }) ∷ []) (network_tree (record d { uuid = Some uuid }) ∷ [])
unfolding network_tree
unidentified d uuid =
    longer (behind d) (uuid_tree uuid ∷ behind d) (worded (codes "name") d.name) (worded (codes "name") d.name)
    (both_longer (worded (codes "name") d.name ∷ []) (worded (codes "name") d.name ∷ []) (behind d) (uuid_tree uuid ∷ behind d) (as_long (worded (codes "name") d.name ∷ []))
    (both_longer [] (uuid_tree uuid ∷ []) (behind d) (behind d) (none_longer (uuid_tree uuid ∷ [])) (as_long (behind d))))

fits_by : (d : NetDef) (uuid : Option (List ℕ)) → fits (network_tree (identified (record d { uuid = uuid }))) ≡ true → fits (network_tree (record d { uuid = uuid })) ≡ true
fits_by d None e = fits_too (network_tree (record d { uuid = None })) (network_tree (record d { uuid = Some zero_bytes })) (unidentified d zero_bytes) e
fits_by d (Some uuid) e = e

own_fits : (d : NetDef) → network_fits d ≡ true → fits (network_tree d) ≡ true
unfolding network_fits
own_fits d e = fits_by d d.uuid e

-- ---- values are read back
address_back : (n : ℕ) → n < 2 ^ 32 → address_value (address_text n) ≡ Ok n
address_back n small = rw (address_again n small) refl

mac_again : (m : _) → IsMac m → mac_value (mac_text m) ≡ Ok m
mac_again m is = rw (mac_back m is) refl

mode_back : (m : Option ForwardMode) → optional (codes "/network/forward") mode_value (option_map mode_word m) ≡ Ok m
mode_back None = refl
mode_back (Some mode.Nat) = refl
mode_back (Some mode.Route) = refl

mask_back : (n : ℕ) → 1 ≤ n → n ≤ 30 → mask_value (address_text (mask_of n)) ≡ Ok n
mask_back n low high =
    let small : n < 33 = omega (arith, high) in
    rw (address_again (mask_of n) (mask_small n), ones_back n small, is_le 1 n low, is_le n 30 high) refl

-- ---- parts are read back
start_at : (range : AddressRange) → value_called (codes "start") (range_tree range) ≡ Some (address_text range.start)
unfolding value_called is_pair_called
start_at range = refl

end_at : (range : AddressRange) → value_called (codes "end") (range_tree range) ≡ Some (address_text range.end)
unfolding value_called is_pair_called
end_at range = refl

range_back : (subnet : Subnet) (range : AddressRange) → IsSoundRange subnet range → range_of subnet (range_tree range) ≡ Ok range
unfolding range_of
range_back subnet range is = rw (start_at range, address_back range.start is.start, end_at range, address_back range.end is.end, is.within) refl

mac_at : (host : HostLine) → value_called (codes "mac") (host_tree host) ≡ Some (mac_text host.mac)
unfolding value_called is_pair_called
mac_at host = refl

host_at : (host : HostLine) → value_called (codes "ip") (host_tree host) ≡ Some (address_text host.address)
unfolding value_called is_pair_called
host_at host = refl

host_back : (subnet : Subnet) (host : HostLine) → IsSoundHost subnet host → host_of subnet (host_tree host) ≡ Ok host
unfolding host_of
host_back subnet host is = rw (mac_at host, mac_again host.mac is.mac, host_at host, address_back host.address is.address, is.within) refl

hosts_back : (subnet : Subnet) (hosts : List HostLine) → AllByRecursion (IsSoundHost subnet) hosts → hosts_of subnet (map host_tree hosts) ≡ Ok hosts
hosts_back subnet [] all = refl
hosts_back subnet (host ∷ hosts) all = rw (host_back subnet host all.0, hosts_back subnet hosts all.1) refl

are_hosts : (hosts : List HostLine) → filter (is_called (codes "host")) (map host_tree hosts) ≡ map host_tree hosts
unfolding is_called
are_hosts [] = refl
are_hosts (host ∷ hosts) = ap (λ (ts : List Tree). host_tree host ∷ ts) (are_hosts hosts)

no_range : (hosts : List HostLine) → find (is_called (codes "range")) (map host_tree hosts) ≡ None
unfolding is_called
no_range [] = refl
no_range (host ∷ hosts) = no_range hosts

range_among : (range : Option AddressRange) (hosts : List HostLine) → find (is_called (codes "range")) (if_some range_tree range ++ map host_tree hosts) ≡ option_map range_tree range
unfolding is_called
range_among None hosts = no_range hosts
range_among (Some range) hosts = refl

hosts_among : (range : Option AddressRange) (hosts : List HostLine) → filter (is_called (codes "host")) (if_some range_tree range ++ map host_tree hosts) ≡ map host_tree hosts
unfolding is_called
hosts_among None hosts = are_hosts hosts
hosts_among (Some range) hosts = are_hosts hosts

all_in : (word name : List ℕ) (ts : List Tree) → all_called word (spelled name [] [] ts) ≡ filter (is_called word) ts
unfolding all_called
all_in word name ts = ap (filter (is_called word)) (listed-trees ts)

some_range : (subnet : Subnet) (range : Option AddressRange) → Of (IsSoundRange subnet) range → if_there (range_of subnet) (option_map range_tree range) ≡ Ok range
some_range subnet None is = refl
some_range subnet (Some range) is = rw (range_back subnet range is) refl

range_at : (dhcp : Dhcp) → first_called (codes "range") (dhcp_tree dhcp) ≡ option_map range_tree dhcp.range
range_at dhcp = first_in (codes "range") (codes "dhcp") [] [] (if_some range_tree dhcp.range ++ map host_tree dhcp.hosts) ∙ range_among dhcp.range dhcp.hosts

hosts_at : (dhcp : Dhcp) → all_called (codes "host") (dhcp_tree dhcp) ≡ map host_tree dhcp.hosts
hosts_at dhcp = all_in (codes "host") (codes "dhcp") (if_some range_tree dhcp.range ++ map host_tree dhcp.hosts) ∙ hosts_among dhcp.range dhcp.hosts

dhcp_back : (subnet : Subnet) (dhcp : Dhcp) → IsSoundDhcp subnet dhcp → dhcp_of subnet (dhcp_tree dhcp) ≡ Ok dhcp
unfolding dhcp_of
dhcp_back subnet dhcp is = rw (range_at dhcp, some_range subnet dhcp.range is.range, hosts_at dhcp, hosts_back subnet dhcp.hosts is.hosts) refl

some_dhcp : (subnet : Subnet) (dhcp : Option Dhcp) → Of (IsSoundDhcp subnet) dhcp → if_there (dhcp_of subnet) (option_map dhcp_tree dhcp) ≡ Ok dhcp
some_dhcp subnet None is = refl
some_dhcp subnet (Some dhcp) is = rw (dhcp_back subnet dhcp is) refl

address_at : (ip : NetIp) → value_called (codes "address") (ip_tree ip) ≡ Some (address_text ip.address)
unfolding value_called is_pair_called
address_at ip = refl

netmask_at : (ip : NetIp) → value_called (codes "netmask") (ip_tree ip) ≡ Some (address_text (mask_of ip.prefix))
unfolding value_called is_pair_called
netmask_at ip = refl

dhcp_among : (dhcp : Option Dhcp) → find (is_called (codes "dhcp")) (if_some dhcp_tree dhcp) ≡ option_map dhcp_tree dhcp
unfolding is_called
dhcp_among None = refl
dhcp_among (Some dhcp) = refl

dhcp_at : (ip : NetIp) → first_called (codes "dhcp") (ip_tree ip) ≡ option_map dhcp_tree ip.dhcp
dhcp_at ip = first_in (codes "dhcp") (codes "ip") [] (worth (codes "address") (address_text ip.address) ∷ worth (codes "netmask") (address_text (mask_of ip.prefix)) ∷ []) (if_some dhcp_tree ip.dhcp) ∙ dhcp_among ip.dhcp

ip_back : (ip : NetIp) → IsSoundIp ip → ip_of (ip_tree ip) ≡ Ok ip
unfolding ip_of
ip_back ip is =
    rw (address_at ip, address_back ip.address is.address, netmask_at ip, mask_back ip.prefix is.prefix.0 is.prefix.1, dhcp_at ip, some_dhcp (record { address = ip.address; prefix = ip.prefix }) ip.dhcp is.dhcp) refl

some_ip : (ip : Option NetIp) → Of IsSoundIp ip → if_there ip_of (option_map ip_tree ip) ≡ Ok ip
some_ip None is = refl
some_ip (Some ip) is = rw (ip_back ip is) refl

-- ---- the network
found : (word : List ℕ) (d : NetDef) → first_called word (network_tree d) ≡ find (is_called word) (laid d)
unfolding network_tree
found word d = first_in word (codes "network") [] [] (laid d)

name_at : (d : NetDef) → text_called (codes "name") (network_tree d) ≡ Some d.name
unfolding is_called
name_at d = rw (found (codes "name") d) refl

abbrev all : List ℕ → Option (List ℕ) → Option ForwardMode → Option (List ℕ) → Option NetIp → List Tree
all name uuid forward bridge ip = worded (codes "name") name ∷ if_some uuid_tree uuid ++ (if_some forward_tree forward ++ (if_some bridge_tree bridge ++ if_some ip_tree ip))

uuid_among : (name : List ℕ) (uuid : Option (List ℕ)) (forward : Option ForwardMode) (bridge : Option (List ℕ)) (ip : Option NetIp)
    → option_map text_of (find (is_called (codes "uuid")) (all name uuid forward bridge ip)) ≡ option_map (hyphenated_text lower) uuid
unfolding is_called
uuid_among name (Some u) forward bridge ip = refl
uuid_among name None (Some f) (Some b) (Some ip) = refl
uuid_among name None (Some f) (Some b) None = refl
uuid_among name None (Some f) None (Some ip) = refl
uuid_among name None (Some f) None None = refl
uuid_among name None None (Some b) (Some ip) = refl
uuid_among name None None (Some b) None = refl
uuid_among name None None None (Some ip) = refl
uuid_among name None None None None = refl

forward_among : (name : List ℕ) (uuid : Option (List ℕ)) (forward : Option ForwardMode) (bridge : Option (List ℕ)) (ip : Option NetIp)
    → find (is_called (codes "forward")) (all name uuid forward bridge ip) ≡ option_map forward_tree forward
unfolding is_called
forward_among name (Some u) (Some f) bridge ip = refl
forward_among name None (Some f) bridge ip = refl
forward_among name (Some u) None (Some b) (Some ip) = refl
forward_among name (Some u) None (Some b) None = refl
forward_among name (Some u) None None (Some ip) = refl
forward_among name (Some u) None None None = refl
forward_among name None None (Some b) (Some ip) = refl
forward_among name None None (Some b) None = refl
forward_among name None None None (Some ip) = refl
forward_among name None None None None = refl

bridge_among : (name : List ℕ) (uuid : Option (List ℕ)) (forward : Option ForwardMode) (bridge : Option (List ℕ)) (ip : Option NetIp)
    → find (is_called (codes "bridge")) (all name uuid forward bridge ip) ≡ option_map bridge_tree bridge
unfolding is_called
bridge_among name (Some u) (Some f) (Some b) ip = refl
bridge_among name (Some u) (Some f) None (Some ip) = refl
bridge_among name (Some u) (Some f) None None = refl
bridge_among name (Some u) None (Some b) ip = refl
bridge_among name (Some u) None None (Some ip) = refl
bridge_among name (Some u) None None None = refl
bridge_among name None (Some f) (Some b) ip = refl
bridge_among name None (Some f) None (Some ip) = refl
bridge_among name None (Some f) None None = refl
bridge_among name None None (Some b) ip = refl
bridge_among name None None None (Some ip) = refl
bridge_among name None None None None = refl

ip_among : (name : List ℕ) (uuid : Option (List ℕ)) (forward : Option ForwardMode) (bridge : Option (List ℕ)) (ip : Option NetIp)
    → find (is_called (codes "ip")) (all name uuid forward bridge ip) ≡ option_map ip_tree ip
unfolding is_called
ip_among name (Some u) (Some f) (Some b) (Some ip) = refl
ip_among name (Some u) (Some f) (Some b) None = refl
ip_among name (Some u) (Some f) None (Some ip) = refl
ip_among name (Some u) (Some f) None None = refl
ip_among name (Some u) None (Some b) (Some ip) = refl
ip_among name (Some u) None (Some b) None = refl
ip_among name (Some u) None None (Some ip) = refl
ip_among name (Some u) None None None = refl
ip_among name None (Some f) (Some b) (Some ip) = refl
ip_among name None (Some f) (Some b) None = refl
ip_among name None (Some f) None (Some ip) = refl
ip_among name None (Some f) None None = refl
ip_among name None None (Some b) (Some ip) = refl
ip_among name None None (Some b) None = refl
ip_among name None None None (Some ip) = refl
ip_among name None None None None = refl

uuid_at : (d : NetDef) → text_called (codes "uuid") (network_tree d) ≡ option_map (hyphenated_text lower) d.uuid
uuid_at d = rw (found (codes "uuid") d) (uuid_among d.name d.uuid d.forward d.bridge d.ip)

mode_under : (m : Option ForwardMode) → option_and_then (value_called (codes "mode")) (option_map forward_tree m) ≡ option_map mode_word m
unfolding value_called is_pair_called
mode_under None = refl
mode_under (Some m) = refl

mode_at : (d : NetDef) → mode_in (network_tree d) ≡ option_map mode_word d.forward
unfolding mode_in
mode_at d = rw (found (codes "forward") d, forward_among d.name d.uuid d.forward d.bridge d.ip) (mode_under d.forward)

bridge_under : (name : Option (List ℕ)) → option_and_then (value_called (codes "name")) (option_map bridge_tree name) ≡ name
unfolding value_called is_pair_called
bridge_under None = refl
bridge_under (Some name) = refl

bridge_at : (d : NetDef) → bridge_in (network_tree d) ≡ d.bridge
unfolding bridge_in
bridge_at d = rw (found (codes "bridge") d, bridge_among d.name d.uuid d.forward d.bridge d.ip) (bridge_under d.bridge)

ip_at : (d : NetDef) → first_called (codes "ip") (network_tree d) ≡ option_map ip_tree d.ip
ip_at d = found (codes "ip") d ∙ ip_among d.name d.uuid d.forward d.bridge d.ip

of_back : (d : NetDef) → IsSoundNetwork d → network_of (network_tree d) ≡ Ok d
unfolding network_of
of_back d is =
    rw (
      name_at d,
      name_back d.name is.name,
      uuid_at d,
      identifier_back (codes "/network/uuid") d.uuid is.uuid,
      mode_at d,
      mode_back d.forward,
      ip_at d,
      some_ip d.ip is.ip,
      bridge_at d,
    ) refl

root : (d : NetDef) → is_called (codes "network") (network_tree d) ≡ true
unfolding is_called network_tree
root d = refl

read_back : (d : NetDef) → IsSoundNetwork d → network_read (network_tree d) ≡ Ok d
unfolding network_read network_in
read_back d is = rw (root d, of_back d is, is.fitting) refl

pub network_again : ((t : Tree) → IsWritable t → read_of (written t) ≡ Ok t) → (d : NetDef) → IsSoundNetwork d → ReadsAsNetwork (written (network_tree d)) d
network_again back d is = record {
  tree = network_tree d;
  is_tree = back (network_tree d) (writable (network_tree d) (formed d is) (own_fits d is.fitting));
  is_network = read_back d is;
}

-- ---- what is filled in
alike : (d : NetDef) (u v : List ℕ) → AreNoLonger (network_tree (record d { uuid = Some u }) ∷ []) (network_tree (record d { uuid = Some v }) ∷ [])
unfolding network_tree
alike d u v =
    longer (uuid_tree u ∷ behind d) (uuid_tree v ∷ behind d) (worded (codes "name") d.name) (worded (codes "name") d.name)
    (both_longer (worded (codes "name") d.name ∷ []) (worded (codes "name") d.name ∷ []) (uuid_tree u ∷ behind d) (uuid_tree v ∷ behind d) (as_long (worded (codes "name") d.name ∷ []))
    (both_longer (uuid_tree u ∷ []) (uuid_tree v ∷ []) (behind d) (behind d) (uuid_longer u v) (as_long (behind d))))

fits_alike : (d : NetDef) (u v : List ℕ) → fits (network_tree (record d { uuid = Some u })) ≡ true → fits (network_tree (record d { uuid = Some v })) ≡ true
fits_alike d u v e = fits_too (network_tree (record d { uuid = Some v })) (network_tree (record d { uuid = Some u })) (alike d v u) e

fits_filled : (d : NetDef) (words : List ℕ) (u v : Option (List ℕ)) → IsUuidFilled words u v → network_fits (record d { uuid = u }) ≡ true → network_fits (record d { uuid = v }) ≡ true
unfolding network_fits
fits_filled d words None None filled e = e
fits_filled d words None (Some v) filled e = fits_alike d zero_bytes v e
fits_filled d words (Some u) v filled e = subst (λ (w : Option (List ℕ)). network_fits (record d { uuid = w }) ≡ true) (sym filled.0) e

pub network_filled : (d f : NetDef) (words : List ℕ) → IsSoundNetwork d → IsUuidFilled words d.uuid f.uuid → f ≡ record d { uuid = f.uuid } → IsSoundNetwork f
network_filled d f words is filled same = subst IsSoundNetwork (sym same) (record {
  name = is.name;
  name_text = is.name_text;
  uuid = uuid_filled words d.uuid f.uuid filled is.uuid;
  bridge = is.bridge;
  ip = is.ip;
  fitting = fits_filled d words d.uuid f.uuid filled is.fitting;
})
