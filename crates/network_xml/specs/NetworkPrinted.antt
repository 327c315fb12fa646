-- How the definition of a network is spelled in its tree.
use Rattle.std.specs.Prelude.{ℕ, List, [], ◌∷◌, ◌++◌, Bool, map, Option, Some, option_map, unwrap_or, codes}
use Rattle.std.specs.Option.{option_to_list}
use Rattle.uuid.specs.Parts.{zero_bytes}
use Rattle.types_base.specs.Mac.{mac_text}
use Rattle.types_base.specs.declared.network_def.AddressRange.{AddressRange}
use Rattle.types_base.specs.declared.network_def.Dhcp.{Dhcp}
use Rattle.types_base.specs.declared.network_def.ForwardMode.{ForwardMode}
use Rattle.types_base.specs.declared.network_def.ForwardMode.TheVariants as mode
use Rattle.types_base.specs.declared.network_def.HostLine.{HostLine}
use Rattle.types_base.specs.declared.network_def.NetDef.{NetDef}
use Rattle.types_base.specs.declared.network_def.NetIp.{NetIp}
use Rattle.procedure_spec.specs.LeaseText.{address_text}
use Rattle.text_spec.specs.declared.pair.Pair.{Pair}
use Rattle.text_spec.specs.Spelling.{fits}
use Rattle.text_spec.specs.Tree.{Tree}
use Rattle.xml_tables.specs.Spelled.{spelled, worded, worth}
use Rattle.xml_tables.specs.Values.{uuid_tree}
use Rattle.network_xml.specs.Addresses.{mask_of}

-- the part that there may be
abbrev pub if_some : {A : Type 0} → (A → Tree) → Option A → List Tree
if_some tree part = option_to_list (option_map tree part)

-- an element with one attribute, and one with two and others in it
abbrev pub one_worth : List ℕ → Pair → Tree
one_worth word pair = spelled word (pair ∷ []) [] []

abbrev pub two_worths : List ℕ → Pair → Pair → List Tree → Tree
two_worths word one other children = spelled word (one ∷ other ∷ []) [] children

abbrev pub range_tree : AddressRange → Tree
range_tree range = two_worths (codes "range") (worth (codes "start") (address_text range.start)) (worth (codes "end") (address_text range.end)) []

abbrev pub host_tree : HostLine → Tree
host_tree host = two_worths (codes "host") (worth (codes "mac") (mac_text host.mac)) (worth (codes "ip") (address_text host.address)) []

abbrev pub dhcp_tree : Dhcp → Tree
dhcp_tree dhcp = spelled (codes "dhcp") [] [] (if_some range_tree dhcp.range ++ map host_tree dhcp.hosts)

-- the prefix is printed as a netmask
abbrev pub ip_tree : NetIp → Tree
ip_tree ip = two_worths (codes "ip") (worth (codes "address") (address_text ip.address)) (worth (codes "netmask") (address_text (mask_of ip.prefix))) (if_some dhcp_tree ip.dhcp)

abbrev pub mode_word : ForwardMode → List ℕ
mode_word mode.Nat = codes "nat"
mode_word mode.Route = codes "route"

abbrev pub forward_tree : ForwardMode → Tree
forward_tree m = one_worth (codes "forward") (worth (codes "mode") (mode_word m))

abbrev pub bridge_tree : List ℕ → Tree
bridge_tree name = one_worth (codes "bridge") (worth (codes "name") name)

unfoldable pub network_tree : NetDef → Tree
network_tree d =
    spelled (codes "network") [] []
    (worded (codes "name") d.name ∷ if_some uuid_tree d.uuid ++ (if_some forward_tree d.forward ++ (if_some bridge_tree d.bridge ++ if_some ip_tree d.ip)))

-- the same with an identifier
abbrev pub identified : NetDef → NetDef
identified d = record d { uuid = Some (unwrap_or d.uuid zero_bytes) }

-- its text, once it has an identifier, is within the limits of a text
unfoldable pub network_fits : NetDef → Bool
network_fits d = fits (network_tree (identified d))
