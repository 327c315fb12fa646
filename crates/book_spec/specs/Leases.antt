-- Which address an interface gets. (libvirt leaves it to dnsmasq: a host line's address is that interface's alone.)
use Rattle.std.specs.Prelude.{ℕ, ◌+◌, ◌-◌, ◌==◌, ◌||◌, Bool, not, List, [], ◌∷◌, ◌++◌, find, bytes_eq, is_some, option_map, Option, None, Some, if◌then◌else◌}
use Rattle.std.specs.List.{list_any, range_with_len}
use Rattle.virt_types.specs.Below.types_base.declared.mac.Mac.{Mac}
use Rattle.virt_types.specs.declared.value.LeaseRow.{LeaseRow}
use Rattle.virt_types.specs.Below.types_base.declared.network_def.NetIp.{NetIp}
use Rattle.virt_types.specs.Below.types_base.declared.network_def.Dhcp.{Dhcp}
use Rattle.virt_types.specs.Below.types_base.declared.network_def.AddressRange.{AddressRange}
use Rattle.virt_types.specs.Below.types_base.declared.network_def.HostLine.{HostLine}
use Rattle.book_spec.specs.declared.book.Network.{Network}

abbrev pub same_mac : Mac → Mac → Bool
same_mac one other = bytes_eq one.bytes other.bytes

-- the address that was leased to this interface
unfoldable pub leased_to : Mac → List LeaseRow → Option ℕ
leased_to mac leases = option_map (λ lease. lease.address) (find (λ lease. same_mac lease.mac mac) leases)

abbrev pub dhcp_of : Option NetIp → Option Dhcp
dhcp_of None = None
dhcp_of (Some ip) = ip.dhcp

abbrev pub lines_of : Option Dhcp → List HostLine
lines_of None = []
lines_of (Some dhcp) = dhcp.hosts

abbrev pub bounds_of : Option Dhcp → Option AddressRange
bounds_of None = None
bounds_of (Some dhcp) = dhcp.range

-- the host lines of a network, and its range
abbrev pub hosts_of : Network → List HostLine
hosts_of network = lines_of (dhcp_of network.def.ip)

abbrev pub range_of : Network → Option AddressRange
range_of network = bounds_of (dhcp_of network.def.ip)

-- the address of the first host line of this interface
unfoldable pub hosted_for : Mac → List HostLine → Option ℕ
hosted_for mac hosts = option_map (λ host. host.address) (find (λ host. same_mac host.mac mac) hosts)

-- a host line has this address, or a lease has
unfoldable pub is_hosted : ℕ → List HostLine → Bool
is_hosted address hosts = list_any (λ host. host.address == address) hosts

unfoldable pub is_leased : ℕ → List LeaseRow → Bool
is_leased address leases = list_any (λ lease. lease.address == address) leases

-- the addresses of a range
abbrev pub addresses : AddressRange → List ℕ
addresses range = range_with_len range.start (range.end + 1 - range.start)

-- the least address of the range that no lease and no host line has
unfoldable pub least_free : Option AddressRange → List HostLine → List LeaseRow → Option ℕ
least_free None hosts leases = None
least_free (Some range) hosts leases = find (λ address. not (is_leased address leases || is_hosted address hosts)) (addresses range)

-- the first of the two that is there
abbrev pub or_else : Option ℕ → Option ℕ → Option ℕ
or_else None other = other
or_else (Some address) other = Some address

-- an interface that has a lease keeps it; one that has a host line gets that address; another gets the least free one
unfoldable pub address_for : Mac → Network → Option ℕ
address_for mac network =
    or_else (leased_to mac network.leases) (or_else (hosted_for mac (hosts_of network)) (least_free (range_of network) (hosts_of network) network.leases))

-- the network once this address is leased to this interface: what it has already stays so
abbrev pub with_lease : Mac → ℕ → Network → Network
with_lease mac address network =
    if is_some (leased_to mac network.leases) then network else record network { leases = network.leases ++ record { mac = mac; address = address } ∷ [] }
