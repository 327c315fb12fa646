-- The texts of networks, after libvirt's network format ("General metadata", "Connectivity", "Addressing").
use Rattle.std.specs.Prelude.{ℕ, List, [], ◌∷◌, ◌&&◌, Bool, Option, Some, None, Result, Ok, Err, nat_le, option_and_then, codes, if◌then◌else◌}
use Rattle.std.specs.Str.{bytes_eq}
use Rattle.types_base.specs.declared.mac.Mac.{Mac}
use Rattle.types_base.specs.declared.network_def.AddressRange.{AddressRange}
use Rattle.types_base.specs.declared.network_def.Dhcp.{Dhcp}
use Rattle.types_base.specs.declared.network_def.ForwardMode.{ForwardMode}
use Rattle.types_base.specs.declared.network_def.ForwardMode.TheVariants as mode
use Rattle.types_base.specs.declared.network_def.HostLine.{HostLine}
use Rattle.types_base.specs.declared.network_def.NetDef.{NetDef}
use Rattle.types_base.specs.declared.network_def.NetIp.{NetIp}
use Rattle.procedure_spec.specs.LeaseText.{address_written}
use Rattle.text_spec.specs.declared.definition.DefFault.{DefFault}
use Rattle.text_spec.specs.declared.definition.DefKind.{DefKind}
use Rattle.text_spec.specs.declared.definition.DefKind.TheVariants as kind
use Rattle.text_spec.specs.Definition.{not_too_long}
use Rattle.text_spec.specs.MacText.{mac_of}
use Rattle.text_spec.specs.Table.{fault_of_root, root_fault}
use Rattle.text_spec.specs.Tree.{Tree}
use Rattle.text_spec.specs.Units.{number_of}
use Rattle.xml_tables.specs.Called.{all_called, first_called, is_called, text_called, value_called}
use Rattle.xml_tables.specs.Rows.{at, needed, optional, present, then_read}
use Rattle.xml_tables.specs.Values.{known_value, name_value, uuid_value}
use Rattle.network_xml.specs.Addresses.{contains, has_range, ones_of}
use Rattle.network_xml.specs.NetworkPrinted.{network_fits}
use Rattle.network_xml.specs.declared.subnet.Subnet.{Subnet}

-- ---- values
abbrev pub address_value : List ℕ → Result ℕ DefKind
address_value text = known_value (address_written text)

abbrev pub mac_value : List ℕ → Result Mac DefKind
mac_value text = known_value (mac_of text)

abbrev pub mode_value : List ℕ → Result ForwardMode DefKind
mode_value text = if bytes_eq text (codes "nat") then Ok mode.Nat else (if bytes_eq text (codes "route") then Ok mode.Route else Err kind.BadValue)

-- a value that has to be in its range
abbrev pub in_range : {A : Type 0} → Bool → A → Result A DefKind
in_range holds value = if holds then Ok value else Err kind.Range

-- a prefix is 1 to 30, and no other number
abbrev pub a_prefix : Option ℕ → Result ℕ DefKind
a_prefix None = Err kind.BadValue
a_prefix (Some prefix) = in_range (nat_le 1 prefix && nat_le prefix 30) prefix

abbrev pub prefix_value : List ℕ → Result ℕ DefKind
prefix_value text = a_prefix (number_of text)

abbrev pub mask_value : List ℕ → Result ℕ DefKind
mask_value text = a_prefix (option_and_then ones_of (address_written text))

-- the part that an element is, where there is one
abbrev pub if_there : {A : Type 0} → (Tree → Result A DefFault) → Option Tree → Result (Option A) DefFault
if_there read None = Ok None
if_there read (Some t) = present (read t)

-- ---- the parts of `dhcp`, in the order of the table
unfoldable pub range_of : Subnet → Tree → Result AddressRange DefFault
range_of subnet t =
    then_read (needed (codes "/network/ip/dhcp/range") address_value (value_called (codes "start") t)) (λ start.
    then_read (needed (codes "/network/ip/dhcp/range") address_value (value_called (codes "end") t)) (λ end.
    at (codes "/network/ip/dhcp/range") (in_range (has_range subnet (record { start = start; end = end })) (record { start = start; end = end }))))

unfoldable pub host_of : Subnet → Tree → Result HostLine DefFault
host_of subnet t =
    then_read (needed (codes "/network/ip/dhcp/host") mac_value (value_called (codes "mac") t)) (λ mac.
    then_read (needed (codes "/network/ip/dhcp/host") address_value (value_called (codes "ip") t)) (λ address.
    at (codes "/network/ip/dhcp/host") (in_range (contains subnet address) (record { mac = mac; address = address }))))

-- each of these, in order
abbrev pub hosts_of : Subnet → List Tree → Result (List HostLine) DefFault
hosts_of subnet [] = Ok []
hosts_of subnet (t ∷ ts) = then_read (host_of subnet t) (λ host. then_read (hosts_of subnet ts) (λ hosts. Ok (host ∷ hosts)))

unfoldable pub dhcp_of : Subnet → Tree → Result Dhcp DefFault
dhcp_of subnet t =
    then_read (if_there (range_of subnet) (first_called (codes "range") t)) (λ range.
    then_read (hosts_of subnet (all_called (codes "host") t)) (λ hosts.
    Ok (record { range = range; hosts = hosts })))

-- ---- `ip`
-- its prefix, by its netmask or, where there is none, as a number
abbrev pub prefix_of : Option (List ℕ) → Option (List ℕ) → Result ℕ DefFault
prefix_of (Some mask) prefix = at (codes "/network/ip") (mask_value mask)
prefix_of None prefix = needed (codes "/network/ip") prefix_value prefix

unfoldable pub ip_of : Tree → Result NetIp DefFault
ip_of t =
    then_read (needed (codes "/network/ip") address_value (value_called (codes "address") t)) (λ address.
    then_read (prefix_of (value_called (codes "netmask") t) (value_called (codes "prefix") t)) (λ prefix.
    then_read (if_there (dhcp_of (record { address = address; prefix = prefix })) (first_called (codes "dhcp") t)) (λ dhcp.
    Ok (record { address = address; prefix = prefix; dhcp = dhcp }))))

-- ---- `network`
unfoldable pub mode_in : Tree → Option (List ℕ)
mode_in t = option_and_then (value_called (codes "mode")) (first_called (codes "forward") t)

unfoldable pub bridge_in : Tree → Option (List ℕ)
bridge_in t = option_and_then (value_called (codes "name")) (first_called (codes "bridge") t)

-- what the element of a network says, or its first fault in the order of the table
unfoldable pub network_of : Tree → Result NetDef DefFault
network_of t =
    then_read (needed (codes "/network/name") name_value (text_called (codes "name") t)) (λ name.
    then_read (optional (codes "/network/uuid") uuid_value (text_called (codes "uuid") t)) (λ uuid.
    then_read (optional (codes "/network/forward") mode_value (mode_in t)) (λ forward.
    then_read (if_there ip_of (first_called (codes "ip") t)) (λ ip.
    Ok (record { name = name; uuid = uuid; forward = forward; bridge = bridge_in t; ip = ip })))))

unfoldable pub network_in : Tree → Result NetDef DefFault
network_in t = if is_called (codes "network") t then network_of t else Err (root_fault t)

unfoldable pub network_read : Tree → Result NetDef DefFault
network_read t = not_too_long (fault_of_root kind.TooLong t) network_fits (network_in t)
