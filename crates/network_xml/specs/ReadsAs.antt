-- What whole texts say of networks, and what reading can give.
use Rattle.std.specs.Prelude.{◌≡◌, ◌^◌, ◌<◌, ℕ, List, true, Ok, None}
use Rattle.std.specs.List.{AllByRecursion}
use Rattle.types_base.specs.Name.{bad_place}
use Rattle.types_base.specs.declared.network_def.AddressRange.{AddressRange}
use Rattle.types_base.specs.declared.network_def.Dhcp.{Dhcp}
use Rattle.types_base.specs.declared.network_def.HostLine.{HostLine}
use Rattle.types_base.specs.declared.network_def.NetDef.{NetDef}
use Rattle.types_base.specs.declared.network_def.NetIp.{NetIp}
use Rattle.text_spec.specs.Text.{read_of}
use Rattle.text_spec.specs.Tree.{Tree}
use Rattle.text_spec.specs.Writable.{IsText}
use Rattle.text_laws.specs.Given.{IsMac, IsUuidOf, IsValue, IsWithin}
use Rattle.text_laws.specs.Texts.{Of}
use Rattle.network_xml.specs.Addresses.{contains, has_range}
use Rattle.network_xml.specs.NetworkPrinted.{network_fits}
use Rattle.network_xml.specs.NetworkText.{network_read}
use Rattle.network_xml.specs.declared.subnet.Subnet.{Subnet}

-- a text says this of a network
pub record ReadsAsNetwork (text : List ℕ) (d : NetDef) : Type 0 where
  pub tree : Tree
  pub is_tree : read_of text ≡ Ok tree
  pub is_network : network_read tree ≡ Ok d

pub record IsSoundRange (subnet : Subnet) (range : AddressRange) : Type 0 where
  pub start : range.start < 2 ^ 32
  pub end : range.end < 2 ^ 32
  pub within : has_range subnet range ≡ true

pub record IsSoundHost (subnet : Subnet) (host : HostLine) : Type 0 where
  pub mac : IsMac host.mac
  pub address : host.address < 2 ^ 32
  pub within : contains subnet host.address ≡ true

pub record IsSoundDhcp (subnet : Subnet) (dhcp : Dhcp) : Type 0 where
  pub range : Of (IsSoundRange subnet) dhcp.range
  pub hosts : AllByRecursion (IsSoundHost subnet) dhcp.hosts

pub record IsSoundIp (ip : NetIp) : Type 0 where
  pub address : ip.address < 2 ^ 32
  pub prefix : IsWithin 1 30 ip.prefix
  pub dhcp : Of (IsSoundDhcp (record { address = ip.address; prefix = ip.prefix })) ip.dhcp

-- what reading can give
pub record IsSoundNetwork (d : NetDef) : Type 0 where
  pub name : bad_place d.name ≡ None
  pub name_text : IsText d.name
  pub uuid : IsUuidOf d.uuid
  pub bridge : Of IsValue d.bridge
  pub ip : Of IsSoundIp d.ip
  pub fitting : network_fits d ≡ true
